-- `step` meets its contract, step by step as its definition. Assumes nothing.
use mathlib.Core.Path.{sym}
use Rattle.rg_joint.specs.Joint.{joint_next}
use Rattle.rg_joint.proofs.joint.step.Goals as goal

pub returns : goal.returns
unfolding joint_next
returns c =
    rw (sym c.lambda_at-l.ensures, sym c.moved.ensures)
