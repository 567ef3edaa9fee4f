-- `rd_moved` meets its contract, step by step as its definition. Assumes nothing.
use mathlib.Core.Path.{refl}
use Rattle.rg_joint.specs.Joint.{rd_moved}
use Rattle.rg_joint.proofs.joint.rd_moved.Goals as goal

pub returns : goal.returns
unfolding rd_moved
returns c =
    refl
