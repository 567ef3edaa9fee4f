-- Answers.
use Rattle.std.proofs.Common.{◌∙◌, arith, rules}
use Rattle.tally.proofs.Steps.{tally_none, tally_past, tally_one}
use Rattle.tally.proofs.block.tally.Goals as goal

pub returns-then-number-lt-FIRST : goal.returns-then-number-lt-FIRST
returns-then-number-lt-FIRST c =
    let a = c.args in tally_none a.block.now a.number (omega arith)

pub returns-then-number-gt-LAST : goal.returns-then-number-gt-LAST
returns-then-number-gt-LAST c =
    let a = c.args in tally_past a.block.now a.number (omega arith) (omega arith)

pub returns : goal.returns
returns c =
    let a = c.args in
    c.grow.ensures ∙ tally_one a.block.now a.number (omega arith) (omega arith)
