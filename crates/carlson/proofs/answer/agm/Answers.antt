-- `agm` meets its contract, step by step as its definition. Assumes nothing.
use Rattle.std.proofs.Common.{refl}
use Rattle.carlson.specs.Answer.{agm_at}
use Rattle.carlson.proofs.answer.agm.Goals as goal

pub returns : goal.returns
unfolding agm_at
returns c =
    refl
