-- `rf_moved` meets its contract, step by step as its definition. Assumes nothing.
use mathlib.Core.Path.{refl}
use Rattle.rg_joint.specs.Joint.{rf_moved}
use Rattle.rg_joint.proofs.joint.rf_moved.Goals as goal

pub returns : goal.returns
unfolding rf_moved
returns c =
    refl
