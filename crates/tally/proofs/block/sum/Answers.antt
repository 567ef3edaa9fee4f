-- Answers.
use Rattle.std.proofs.Common.{arith, rules}
use Rattle.tally.proofs.Steps.{sum_there}
use Rattle.tally.proofs.block.sum.Goals as goal

pub returns : goal.returns
returns c =
    let a = c.args in
    sum_there a.block.now c.add_value.new.words a.bits (omega arith)
    c.add_value.ensures
