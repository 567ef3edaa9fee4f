-- `closed` meets its contract, step by step as its definition. Assumes nothing.
use Rattle.std.proofs.Common.{refl}
use Rattle.carlson.specs.Answer.{closed_at}
use Rattle.carlson.proofs.answer.closed.Goals as goal

pub returns : goal.returns
unfolding closed_at
returns c =
    refl
