-- `meets` meets its contract, case by case as its definition. Assumes nothing.
use Rattle.std.proofs.Common.{sym}
use Rattle.claim.specs.Claims.{meets_of}
use Rattle.claim.proofs.meeting.meets.Goals as goal

pub returns-in-Ok : goal.returns-in-Ok
unfolding meets_of
returns-in-Ok c =
    rw (c.in-Ok.is, c.value_meets.ensures, c.split.ensures)

pub returns-in-Err : goal.returns-in-Err
unfolding meets_of
returns-in-Err c =
    rw (c.in-Err.is, sym c.number.ensures) c.refusal_meets.ensures
