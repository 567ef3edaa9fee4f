-- `refusal_meets` meets its contract, test by test as its definition. Assumes nothing.
use borrow.Author.Tests.{eq-eqb, ne_eqb}
use Rattle.claim.specs.Claims.{refusal_meets}
use Rattle.claim.proofs.meeting.refusal_meets.Goals as goal

pub returns-then-claim-ne1 : goal.returns-then-claim-ne1
unfolding refusal_meets
returns-then-claim-ne1 c =
    rw (ne_eqb _ 1 c.if-claim-ne1.true)

pub returns : goal.returns
unfolding refusal_meets
returns c =
    rw (eq-eqb _ 1 c.if-claim-ne1.false)
