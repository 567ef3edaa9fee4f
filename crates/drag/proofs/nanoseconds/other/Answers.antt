-- `other` meets its contract, step by step as its definition. Assumes nothing.
use borrow.Author.Tests.{eq-eqb, ne_eqb}
use Rattle.drag.specs.Verdict.{other_of}
use Rattle.drag.proofs.nanoseconds.other.Goals as goal

pub returns-then-part-eq1 : goal.returns-then-part-eq1
unfolding other_of
returns-then-part-eq1 c =
    rw (eq-eqb _ _ c.if-part-eq1.true)

pub returns-then-part-eq2 : goal.returns-then-part-eq2
unfolding other_of
returns-then-part-eq2 c =
    rw (ne_eqb _ _ c.if-part-eq1.false, eq-eqb _ _ c.if-part-eq2.true)

pub returns : goal.returns
unfolding other_of
returns c =
    rw (ne_eqb _ _ c.if-part-eq1.false, ne_eqb _ _ c.if-part-eq2.false)
