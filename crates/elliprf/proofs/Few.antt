-- RF begins at most its cap's rounds, and rescales at most once beside the RC that it calls (document 02, 2026-12). Assumes
-- nothing.
use Rattle.std.specs.Prelude.{false, Float}
use Rattle.std.proofs.Common.{arith}
use Rattle.std.specs.Float.Ieee.{eq}
use Rattle.binary64.specs.Operators.{◌⊘◌}
use Rattle.root.specs.Root.{root}
use Rattle.carlson.specs.Constants.{zero}
use Rattle.carlson.specs.Answer.{way_of, closed_at, agm_at, duplication_at}
use Rattle.carlson.specs.Loop.{capped_holds}
use Rattle.carlson.proofs.Only.{chosen}
use Rattle.carlson_arguments.specs.Rescaled.{rescaled3_to}
use Rattle.carlson.specs.Ways.{Within}
use Rattle.carlson.proofs.Ways.{counted, wider, rescaled_within}
use Rattle.carlson.specs.declared.answer.Found.{Found}
use Rattle.elliprc.specs.Rc.{over_root}
use Rattle.elliprc.specs.Few.{rc_within}
use Rattle.rf_duplicate.specs.Duplicate.{rf_cap, rf_begin, rf_step, rf_close, rf_found, rf_spent, rf_duplication}
use Rattle.elliprf.specs.Means.{rf_means_of, rf_together, rf_agm_count, rf_agm_start, rf_agm_of}
use Rattle.elliprf.specs.Rf.{rf_equal, rf_zero, rf_two, rf_general, rf_steps, rf_unchecked}

abbrev Steps : Found → Type 0
Steps f = Within rf_cap 1 f.way

duplicated : (x y z : Float) → Steps (rf_duplication x y z)
unfolding rf_duplication duplication_at
duplicated x y z =
    capped_holds rf_step rf_close (rf_found x y (rf_begin x y z).an) rf_spent Steps rf_cap (λ s n h. counted n h)
    (λ s n h. counted n h) rf_cap false (rf_begin x y z) 0 (omega arith)

means : (x y : Float) → Steps (rf_agm_of x y)
unfolding rf_agm_of agm_at
means x y =
    capped_holds rf_means_of rf_together rf_agm_count rf_agm_count Steps rf_cap (λ s n h. counted n h) (λ s n h. counted n h)
    rf_cap (rf_together (rf_agm_start x y)) (rf_agm_start x y) 0 (omega arith)

general : (x y z : Float) → Steps (rf_general x y z)
unfolding rf_general
general x y z =
    chosen Steps (eq x zero) (means z y) (chosen Steps (eq y zero) (means x z)
    (chosen Steps (eq z zero) (means x y) (duplicated x y z)))

steps : (x y z : Float) → Steps (rf_steps x y z)
unfolding rf_steps rf_equal rf_zero rf_two closed_at
steps x y z =
    chosen Steps (eq x y) (chosen Steps (eq x z) none (chosen Steps (eq z zero) none (two z x)))
    (chosen Steps (eq x z) (chosen Steps (eq y zero) none (two y x))
    (chosen Steps (eq y z) (chosen Steps (eq x zero) none (two x y)) (general x y z)))
  where
    none : Within rf_cap 1 (way_of 0)
    none = counted 0 (omega arith)

    two : (x y : Float) → Steps (rf_two x y)
    two x y = wider (omega arith) (omega arith) (rc_within x y)

pub rf_within : (x y z : Float) → Within rf_cap 2 (rf_unchecked x y z).way
unfolding rf_unchecked over_root
rf_within = rescaled3_to Steps (λ f. Within rf_cap 2 f.way) over_root rf_steps steps
    (λ f h. wider (omega arith) (omega arith) h) (λ f s h. rescaled_within f (f.value ⊘ root s) h)
