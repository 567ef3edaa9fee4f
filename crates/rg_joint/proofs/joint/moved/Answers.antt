-- `moved` meets its contract, step by step as its definition. Assumes nothing.
use Rattle.rg_joint.specs.Joint.{joint_moved}
use Rattle.rg_joint.proofs.joint.moved.Goals as goal

pub returns : goal.returns
unfolding joint_moved
returns c =
    cc
