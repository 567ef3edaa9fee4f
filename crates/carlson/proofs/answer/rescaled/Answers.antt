-- `rescaled` meets its contract: a sum that wraps is one modulo 2 ^ 32. Assumes nothing.
use Rattle.carlson.specs.Answer.{rescaled_at}
use Rattle.carlson.proofs.answer.rescaled.Goals as goal

pub returns : goal.returns
unfolding rescaled_at
returns c =
    rw c.wrapping_add_u32.ensures.value
