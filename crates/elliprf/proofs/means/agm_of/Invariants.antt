-- What stays so in the loop: what is left of it gives what the whole loop gives.
use Rattle.carlson.specs.Loop.{Left}
use Rattle.rf_duplicate.specs.Duplicate.{rf_cap}
use Rattle.elliprf.specs.Means.{rf_means_of, rf_agm_count, rf_together}
use Rattle.elliprf.proofs.means.agm_of.Given as goal

abbrev pub invariant-loop-n : goal.invariant-loop-n
invariant-loop-n l =
    Left rf_means_of rf_together rf_agm_count rf_agm_count rf_cap (rf_together l.initial.m) l.initial.m (rf_together l.m) l.m l.n
