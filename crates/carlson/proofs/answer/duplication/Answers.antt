-- `duplication` meets its contract, step by step as its definition. Assumes nothing.
use Rattle.std.proofs.Common.{refl}
use Rattle.carlson.specs.Answer.{duplication_at}
use Rattle.carlson.proofs.answer.duplication.Goals as goal

pub returns : goal.returns
unfolding duplication_at
returns c =
    refl
