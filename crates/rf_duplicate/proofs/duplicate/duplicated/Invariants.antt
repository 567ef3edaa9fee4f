-- What stays so in the loop: what is left of it gives what the whole loop gives.
use Rattle.std.proofs.Common.{false}
use Rattle.carlson.specs.Loop.{Left}
use Rattle.rf_duplicate.specs.Duplicate.{rf_cap, rf_step, rf_close, rf_found, rf_spent}
use Rattle.rf_duplicate.proofs.duplicate.duplicated.Given as goal

abbrev pub invariant-loop-n : goal.invariant-loop-n
invariant-loop-n l = Left rf_step rf_close (rf_found l.x l.y l.a0) rf_spent rf_cap false l.initial.at false l.at l.n
