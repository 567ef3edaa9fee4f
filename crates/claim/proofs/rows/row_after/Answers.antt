-- `row_after` meets its contract, case by case as its definition. Assumes nothing.
use Rattle.claim.specs.Rows.{row_after}
use Rattle.claim.proofs.rows.row_after.Goals as goal

pub returns-then-met : goal.returns-then-met
unfolding row_after
returns-then-met c =
    rw (c.in-Accepted.is, c.if-met.true)

pub returns-in-Refused : goal.returns-in-Refused
unfolding row_after
returns-in-Refused c =
    rw c.in-Refused.is

pub returns-in-BadRow : goal.returns-in-BadRow
unfolding row_after
returns-in-BadRow c =
    rw c.in-BadRow.is

pub returns-else-met : goal.returns-else-met
unfolding row_after
returns-else-met c =
    rw (c.in-Accepted.is, c.if-met.false)
