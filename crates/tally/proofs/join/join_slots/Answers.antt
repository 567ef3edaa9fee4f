-- `join_slots` meets its contract. Assumes nothing.
use Rattle.std.proofs.Common.{sym, ◌∙◌, arith}
use Rattle.tally.proofs.Steps.{joined_on, joined_all}
use Rattle.tally.proofs.join.join_slots.Goals as goal

pub loop-i-preserved : goal.loop-i-preserved
loop-i-preserved c =
    let l = c.loop-i in
    joined_on l.i l.block c.args.other.now c.joined_word.result (omega arith) c.joined_word.ensures ∙ l.invariant

pub returns : goal.returns
returns c =
    let l = c.loop-i in sym (joined_all l.i l.block _ (omega arith) (omega arith)) ∙ l.invariant
