-- `begin` meets its contract, step by step as its definition. Assumes nothing.
use mathlib.Core.Path.{sym}
use Rattle.rg_joint.specs.Joint.{joint_begun}
use Rattle.rg_joint.proofs.joint.begin.Goals as goal

pub returns : goal.returns
unfolding joint_begun
returns c =
    rw (sym c.rf_begin-rf.ensures, sym c.rd_begin-rd.ensures)
