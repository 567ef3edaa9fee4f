-- `rf_ended` meets its contract: its tests are those of the definition, in its order. Assumes nothing.
use mathlib.Core.Path.{sym}
use Rattle.rg_joint.specs.Joint.{rf_ended}
use Rattle.rg_joint.proofs.joint.rf_ended.Goals as goal

pub returns-then-q-abs : goal.returns-then-q-abs
unfolding rf_ended
returns-then-q-abs c =
    rw (sym c.abs.ensures, c.if-q-abs.true, sym c.series.ensures)

pub returns : goal.returns
unfolding rf_ended
returns c =
    rw (sym c.abs.ensures, c.if-q-abs.false)
