-- `result` meets its contract, step by step as its definition. Assumes nothing.
use mathlib.Core.Path.{refl}
use Rattle.rg_joint.specs.Joint.{rf_rd_of}
use Rattle.rg_joint.proofs.joint.result.Goals as goal

pub returns : goal.returns
unfolding rf_rd_of
returns c =
    refl
