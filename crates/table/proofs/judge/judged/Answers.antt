-- `judged` meets its contract, case by case as the definition. Assumes nothing.
use Rattle.claim.specs.Rows.{row_after}
use Rattle.table.proofs.judge.judged.Goals as goal

pub returns-in-Refused : goal.returns-in-Refused
unfolding row_after
returns-in-Refused c =
    rw c.in-Refused.is

pub returns-in-BadRow : goal.returns-in-BadRow
unfolding row_after
returns-in-BadRow c =
    rw c.in-BadRow.is

pub returns-in-Accepted : goal.returns-in-Accepted
unfolding row_after
returns-in-Accepted c =
    rw (c.in-Accepted.is, c.row_after.ensures, c.job_meets.ensures)
