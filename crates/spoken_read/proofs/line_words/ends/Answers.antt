-- `ends` meets its contract. The invariant: from here on the word ends where it does from `at` on. Assumes nothing.
use Rattle.std.proofs.Common.{sym, ◌∙◌, add-one, arith}
use Rattle.spoken_read.specs.Words.{ends_at}
use Rattle.spoken_read.specs.WordLaws.{ends_on, ends_here, ends_last}
use Rattle.spoken_read.proofs.line_words.ends.Goals as goal

pub loop-i-init : goal.loop-i-init
unfolding ends_at
loop-i-init c = rw add-one

pub returns-then-is_blank : goal.returns-then-is_blank
returns-then-is_blank c =
    let here = ends_here c.args.line.now c.loop-i.i (omega arith) (sym c.is_blank.ensures ∙ c.if-is_blank.true) in
    (sym here ∙ c.loop-i.invariant, omega arith, omega arith)

pub loop-i-preserved : goal.loop-i-preserved
loop-i-preserved c =
    sym (ends_on c.args.line.now c.loop-i.i (omega arith) (sym c.is_blank.ensures ∙ c.if-is_blank.false)) ∙ c.loop-i.invariant

pub returns : goal.returns
returns c = (
  omega (arith, ends_last c.args.line.now c.loop-i.i c.loop-i-test.false, c.loop-i.invariant),
  omega arith,
  omega arith,
)
