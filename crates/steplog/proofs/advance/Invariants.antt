-- What stays so in the loop: what is left of the readings, logged, gives what all of them give.
use Rattle.std.proofs.Common.{◌≡◌, drop}
use Rattle.steplog.specs.Steps.{log_from, log_all}
use Rattle.steplog.proofs.advance.Given as goal

abbrev pub invariant-loop-reading : goal.invariant-loop-reading
invariant-loop-reading l =
    log_all l.log (drop l.reading-index l.readings) ≡ log_all (log_from l.total) l.readings
