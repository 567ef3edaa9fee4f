-- `logged` meets its contract, case by case. Assumes nothing.
use Rattle.std.proofs.Common.{sym}
use Rattle.steplog.specs.Steps.{sum_after, log_after}
use Rattle.steplog.proofs.logged.Goals as goal

pub returns-in-Some : goal.returns-in-Some
unfolding log_after sum_after
returns-in-Some c = rw (c.in-Some.is, sym c.between.ensures, sym c.more-sum.ensures)

pub returns-in-None : goal.returns-in-None
unfolding log_after sum_after
returns-in-None c = rw c.in-None.is
