-- `deltas_of` meets its contract, step by step as its definition. Assumes nothing.
use mathlib.Core.Path.{sym}
use Rattle.rj_near_zero.specs.NearZero.{deltas_of}
use Rattle.rj_near_zero.proofs.nearzero.deltas_of.Goals as goal

pub returns : goal.returns
unfolding deltas_of
returns c =
    rw (sym c.mul_add.ensures, sym c.mul_add-2.ensures, sym c.mul_add-3.ensures)
