-- `joined` meets its contract, step by step as its definition. Assumes nothing.
use Rattle.rg_joint.specs.Joint.{rg_joint}
use Rattle.rg_joint.proofs.joint.joined.Goals as goal

pub returns : goal.returns
unfolding rg_joint
returns c =
    cc
