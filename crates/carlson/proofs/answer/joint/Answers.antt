-- `joint` meets its contract, step by step as its definition. Assumes nothing.
use Rattle.std.proofs.Common.{refl}
use Rattle.carlson.specs.Answer.{joint_at}
use Rattle.carlson.proofs.answer.joint.Goals as goal

pub returns : goal.returns
unfolding joint_at
returns c =
    refl
