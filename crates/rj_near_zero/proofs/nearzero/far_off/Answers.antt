-- `far_off` meets its contract, step by step as its definition. Assumes nothing.
use mathlib.Core.Path.{sym}
use Rattle.rj_near_zero.specs.NearZero.{distant}
use Rattle.rj_near_zero.proofs.nearzero.far_off.Goals as goal

pub returns : goal.returns
unfolding distant
returns c =
    rw (sym c.largest.ensures)
