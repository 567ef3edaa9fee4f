-- `spelled` meets its contract. The invariant: what is left of the word, after the number so far, gives what all of it gives.
-- Assumes nothing.
use Rattle.std.proofs.Common.{sym, ◌∙◌, arith, le-ltb, lt-ltb}
use Rattle.spoken_read.specs.Lines.{spelled_of}
use Rattle.spoken_read.specs.WordLaws.{spelled_on, spelled_last}
use Rattle.spoken_read.proofs.said.spelled.Goals as goal

pub returns-then-word-gt-LONGEST : goal.returns-then-word-gt-LONGEST
unfolding spelled_of
returns-then-word-gt-LONGEST c =
    rw (lt-ltb _ _ c.if-word-gt-LONGEST.true)

pub loop-b-preserved : goal.loop-b-preserved
loop-b-preserved c =
    let l = c.args.word.now in
    rw c.lower.ensures (sym (spelled_on l c.loop-b.b-index c.loop-b.n (omega arith)) ∙ c.loop-b.invariant)

pub returns : goal.returns
unfolding spelled_of
returns c =
    let l = c.args.word.now in
    rw (le-ltb _ _ c.if-word-gt-LONGEST.false)
    (sym (spelled_last l c.loop-b.b-index c.loop-b.n (omega arith)) ∙ c.loop-b.invariant)
