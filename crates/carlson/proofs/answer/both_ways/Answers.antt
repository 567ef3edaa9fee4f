-- `both_ways` meets its contract: a sum that wraps is one modulo 2 ^ 32. Assumes nothing.
use Rattle.carlson.specs.Answer.{wrapped_ways}
use Rattle.carlson.proofs.answer.both_ways.Goals as goal

pub returns : goal.returns
unfolding wrapped_ways
returns c =
    rw (c.wrapping_add_u32.ensures.value, c.wrapping_add_u32-2.ensures.value)
