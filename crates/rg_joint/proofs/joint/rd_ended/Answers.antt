-- `rd_ended` meets its contract: its tests are those of the definition, in its order. Assumes nothing.
use mathlib.Core.Path.{sym}
use Rattle.rg_joint.specs.Joint.{rd_ended}
use Rattle.rg_joint.proofs.joint.rd_ended.Goals as goal

pub returns-then-q-an : goal.returns-then-q-an
unfolding rd_ended
returns-then-q-an c =
    rw (c.if-q-an.true, sym c.series.ensures)

pub returns : goal.returns
unfolding rd_ended
returns c =
    rw c.if-q-an.false
