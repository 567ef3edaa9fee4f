-- `looped` meets its contract, step by step as its definition. Assumes nothing.
use Rattle.std.proofs.Common.{refl}
use Rattle.carlson.specs.Answer.{loop_at}
use Rattle.carlson.proofs.answer.looped.Goals as goal

pub returns : goal.returns
unfolding loop_at
returns c =
    refl
