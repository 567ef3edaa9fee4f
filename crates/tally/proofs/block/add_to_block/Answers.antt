-- Answers.
use Rattle.std.proofs.Common.{arith, rules}
use Rattle.tally.proofs.Steps.{added_not, added_there}
use Rattle.tally.proofs.block.add_to_block.Goals as goal

pub returns-then-block-ne-BLOCK : goal.returns-then-block-ne-BLOCK
returns-then-block-ne-BLOCK c =
    let a = c.args in added_not a.block.now a.counted (λ e. omega arith)

pub returns : goal.returns
returns c =
    let a = c.args in
    let e = added_there a.block.now a.counted (omega arith) in cc
