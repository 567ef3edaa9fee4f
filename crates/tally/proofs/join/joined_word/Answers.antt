-- `joined_word` meets its contract. Assumes nothing.
use Rattle.std.proofs.Common.{◌∙◌, arith}
use Rattle.tally.proofs.Steps.{most_joined, both_words}
use Rattle.tally.proofs.join.joined_word.Goals as goal

pub returns-then-i-eq-MOST : goal.returns-then-i-eq-MOST
returns-then-i-eq-MOST c =
    let a = c.args in c.max.ensures ∙ most_joined a.i a.v a.w (omega arith)

pub returns : goal.returns
returns c =
    let a = c.args in both_words a.i a.v a.w (λ e. omega arith)
