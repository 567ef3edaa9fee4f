-- `linear_error` meets its contract, step by step as its definition. Assumes nothing.
use mathlib.Core.Path.{sym}
use Rattle.rj_near_zero.specs.NearZero.{error_of}
use Rattle.rj_near_zero.proofs.nearzero.linear_error.Goals as goal

pub returns : goal.returns
unfolding error_of
returns c =
    rw (sym c.mul_add.ensures)
