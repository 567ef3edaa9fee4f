-- `value_of` meets its contract, step by step as its definition. Assumes nothing.
use mathlib.Core.Path.{sym}
use Rattle.rg_joint.specs.Joint.{rg_value}
use Rattle.rg_joint.proofs.joint.value_of.Goals as goal

pub returns : goal.returns
unfolding rg_value
returns c =
    rw (sym c.sqrt.ensures)
