-- `largest` meets its contract, step by step as its definition. Assumes nothing.
use mathlib.Core.Path.{sym}
use Rattle.rj_near_zero.specs.NearZero.{largest_of}
use Rattle.rj_near_zero.proofs.nearzero.largest.Goals as goal

pub returns : goal.returns
unfolding largest_of
returns c =
    rw (
      sym c.abs.ensures,
      sym c.abs-2.ensures,
      sym c.max.ensures,
      sym c.abs-3.ensures,
      sym c.max-2.ensures,
    )
