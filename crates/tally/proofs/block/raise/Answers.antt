-- Answers.
use Rattle.std.proofs.Common.{arith, rules}
use Rattle.tally.proofs.Steps.{raise_there, raise_not}
use Rattle.tally.proofs.block.raise.Goals as goal

pub returns-then-block-rounds : goal.returns-then-block-rounds
returns-then-block-rounds c =
    let a = c.args in raise_there a.block.now a.rounds (omega arith)

pub returns-else-block-rounds : goal.returns-else-block-rounds
returns-else-block-rounds c =
    let a = c.args in raise_not a.block.now a.rounds (omega arith)
