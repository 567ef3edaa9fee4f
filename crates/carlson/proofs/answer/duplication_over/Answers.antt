-- `duplication_over` meets its contract, step by step as its definition. Assumes nothing.
use Rattle.std.proofs.Common.{refl}
use Rattle.carlson.specs.Answer.{duplication_over}
use Rattle.carlson.proofs.answer.duplication_over.Goals as goal

pub returns : goal.returns
unfolding duplication_over
returns c =
    refl
