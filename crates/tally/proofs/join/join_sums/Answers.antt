-- Answers.
use Rattle.std.proofs.Common.{arith, rules}
use Rattle.tally.proofs.Steps.{sums_there}
use Rattle.tally.proofs.join.join_sums.Goals as goal

pub returns : goal.returns
returns c =
    let a = c.args in
    sums_there a.block.now a.other.now c.join.new.words (omega arith) c.join.ensures
