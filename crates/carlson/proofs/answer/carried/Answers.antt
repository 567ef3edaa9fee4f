-- `carried` meets its contract, step by step as its definition. Assumes nothing.
use Rattle.std.proofs.Common.{refl}
use Rattle.carlson.specs.Answer.{carried_at}
use Rattle.carlson.proofs.answer.carried.Goals as goal

pub returns : goal.returns
unfolding carried_at
returns c =
    refl
