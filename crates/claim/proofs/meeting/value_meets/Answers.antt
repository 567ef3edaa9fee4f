-- `value_meets` meets its contract, test by test as its definition. Assumes nothing.
use mathlib.Core.Path.{sym, ◌∙◌}
use borrow.Author.Tests.{eq-eqb, ne_eqb}
use Rattle.claim.specs.Claims.{value_meets}
use Rattle.claim.proofs.meeting.value_meets.Goals as goal

pub returns-then-claim-ne0 : goal.returns-then-claim-ne0
unfolding value_meets
returns-then-claim-ne0 c =
    rw (ne_eqb _ 0 c.if-claim-ne0.true)

pub returns-then-is_finite_pattern : goal.returns-then-is_finite_pattern
unfolding value_meets
returns-then-is_finite_pattern c =
    rw (eq-eqb _ 0 c.if-claim-ne0.false, sym c.is_finite_pattern.ensures ∙ c.if-is_finite_pattern.true, c.apart.ensures)

pub returns : goal.returns
unfolding value_meets
returns c =
    rw (eq-eqb _ 0 c.if-claim-ne0.false, sym c.is_finite_pattern.ensures ∙ c.if-is_finite_pattern.false)
