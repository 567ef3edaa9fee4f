-- `rf_step` meets its contract, step by step as its definition. Assumes nothing.
use Rattle.rg_joint.specs.Joint.{rf_next}
use Rattle.rg_joint.proofs.joint.rf_step.Goals as goal

pub returns-then-done : goal.returns-then-done
unfolding rf_next
returns-then-done c =
    cc

pub returns : goal.returns
unfolding rf_next
returns c =
    cc
