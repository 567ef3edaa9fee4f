-- `begins` meets its contract. The invariant: from here on the next word begins where it does from `at` on. Assumes nothing.
use Rattle.std.proofs.Common.{sym, ◌∙◌, arith}
use Rattle.spoken_read.specs.WordLaws.{begins_on, begins_here, begins_last}
use Rattle.spoken_read.proofs.line_words.begins.Goals as goal

pub loop-i-preserved : goal.loop-i-preserved
loop-i-preserved c =
    sym (begins_on c.args.line.now c.loop-i.i (omega arith) (sym c.is_blank.ensures ∙ c.if-not-is_blank.false))
    ∙ c.loop-i.invariant

pub returns-then-not-is_blank : goal.returns-then-not-is_blank
returns-then-not-is_blank c =
    let here = begins_here c.args.line.now c.loop-i.i (omega arith) (sym c.is_blank.ensures ∙ c.if-not-is_blank.true) in
    (sym here ∙ c.loop-i.invariant, omega arith, omega arith)

pub returns : goal.returns
returns c = (
  omega (arith, begins_last c.args.line.now c.loop-i.i c.loop-i-test.false, c.loop-i.invariant),
  omega arith,
  omega arith,
)
