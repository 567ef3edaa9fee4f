-- `checked_told` meets its contract, case by case. Assumes nothing.
use borrow.Author.Rules.{rules}
use Rattle.gatewren.specs.Checks.{checked_number, checked_row}
use Rattle.gatewren.proofs.tables.checked_told.Goals as goal

pub returns-in-Accepted : goal.returns-in-Accepted
unfolding checked_number checked_row
returns-in-Accepted c =
    let e = c.in-Accepted.is in record { value = rw e; row_after = rw e }

pub returns-in-BadRow : goal.returns-in-BadRow
unfolding checked_number checked_row
returns-in-BadRow c =
    let e = c.in-BadRow.is in record { value = rw e; row_after = rw e }

pub returns-in-Refused : goal.returns-in-Refused
unfolding checked_number checked_row
returns-in-Refused c =
    let e = c.in-Refused.is in record { value = rw e c.number.ensures; row_after = rw e }
