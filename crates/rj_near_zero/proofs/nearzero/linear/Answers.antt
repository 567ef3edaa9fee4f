-- `linear` meets its contract, step by step as its definition. Assumes nothing.
use mathlib.Core.Path.{sym}
use Rattle.rj_near_zero.specs.NearZero.{linear_of}
use Rattle.rj_near_zero.proofs.nearzero.linear.Goals as goal

pub returns : goal.returns
unfolding linear_of
returns c =
    rw (sym c.mul_add.ensures)
