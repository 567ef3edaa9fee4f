-- `value_of` meets its contract, step by step as its definition. Assumes nothing.
use mathlib.Core.Path.{sym}
use Rattle.rj_near_zero.specs.NearZero.{taylor_of}
use Rattle.rj_near_zero.proofs.nearzero.value_of.Goals as goal

pub returns : goal.returns
unfolding taylor_of
returns c =
    rw (
      sym c.linear.ensures,
      sym c.linear_error.ensures,
      sym c.quadratic.ensures,
      sym c.cubic.ensures,
      sym c.sqrt.ensures,
    )
