-- `handed` meets its contract, step by step as its definition. Assumes nothing.
use Rattle.std.proofs.Common.{refl}
use Rattle.carlson.specs.Answer.{handed_at}
use Rattle.carlson.proofs.answer.handed.Goals as goal

pub returns : goal.returns
unfolding handed_at
returns c =
    refl
