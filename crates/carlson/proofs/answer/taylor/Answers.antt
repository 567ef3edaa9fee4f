-- `taylor` meets its contract, step by step as its definition. Assumes nothing.
use Rattle.std.proofs.Common.{refl}
use Rattle.carlson.specs.Answer.{taylor_at}
use Rattle.carlson.proofs.answer.taylor.Goals as goal

pub returns : goal.returns
unfolding taylor_at
returns c =
    refl
