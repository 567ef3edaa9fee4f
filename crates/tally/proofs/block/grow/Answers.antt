-- Answers.
use Rattle.tally.specs.Tally.{grown}
use Rattle.std.proofs.Common.{rules}
use Rattle.tally.proofs.block.grow.Goals as goal

pub returns : goal.returns
unfolding grown
returns c =
    rw c.wrapping_add_u64.ensures.value
