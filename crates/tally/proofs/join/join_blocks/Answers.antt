-- Answers.
use Rattle.std.proofs.Common.{arith, rules}
use Rattle.tally.proofs.Steps.{joined_not, joined_nor, joined_there}
use Rattle.tally.proofs.join.join_blocks.Goals as goal

pub returns-then-block-ne-BLOCK : goal.returns-then-block-ne-BLOCK
returns-then-block-ne-BLOCK c =
    let a = c.args in joined_not a.block.now a.other.now (λ e. omega arith)

pub returns-then-other-ne-BLOCK : goal.returns-then-other-ne-BLOCK
returns-then-other-ne-BLOCK c =
    let a = c.args in joined_nor a.block.now a.other.now (omega arith) (λ e. omega arith)

pub returns : goal.returns
returns c =
    let a = c.args in
    let e = joined_there a.block.now a.other.now (omega arith) (omega arith) in cc
