-- `reduction` meets its contract, step by step as its definition. Assumes nothing.
use Rattle.std.proofs.Common.{refl}
use Rattle.carlson.specs.Answer.{reduction_at}
use Rattle.carlson.proofs.answer.reduction.Goals as goal

pub returns : goal.returns
unfolding reduction_at
returns c =
    refl
