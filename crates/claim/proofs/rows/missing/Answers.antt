-- `missing` meets its contract, case by case as its definition. Assumes nothing.
use Rattle.claim.specs.Rows.{missing_at}
use Rattle.claim.proofs.rows.missing.Goals as goal

pub returns-in-Refused : goal.returns-in-Refused
unfolding missing_at
returns-in-Refused c =
    rw c.in-Refused.is

pub returns-in-BadRow : goal.returns-in-BadRow
unfolding missing_at
returns-in-BadRow c =
    rw c.in-BadRow.is

pub returns-in-Accepted : goal.returns-in-Accepted
unfolding missing_at
returns-in-Accepted c =
    rw c.in-Accepted.is
