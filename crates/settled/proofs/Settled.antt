-- Document 01's sixteen settled examples, in its order, the last as document 02, 2026-07, has it, as one table under one
-- statement: antt computes each from the definitions. Assumes nothing.
use Rattle.std.specs.Prelude.{◌≡◌, refl, Float}
use Rattle.std.specs.Float.Ieee.{of_bits, add, sub, mul, div, neg, lt, le, eq, is_nan}
use Rattle.rounding.specs.Cut.{value, rounded}
use Rattle.binary64.specs.Leaves.{absolute, maximum, minimum}
use Rattle.root.specs.Root.{root}
use Rattle.fused.specs.Fused.{fused}
use Rattle.carlson.specs.Answer.{closed_at, taylor_at, infinite_at, settled, settled_told}
use Rattle.carlson_arguments.specs.Rescaling.{rescaling2, rescaling3}
use Rattle.carlson.specs.Answer.{Answer}
use Rattle.elliprc.specs.Rc.{rc, rc_unchecked, rc_found}
use Rattle.rc_cases.specs.Cases.{rc_steps, rc_cases, rc_at_equal}
use Rattle.elliprf.specs.Rf.{rf, rf_unchecked, rf_steps, rf_equal, rf_zero}
use Rattle.elliprd.specs.Rd.{rd, rd_unchecked, rd_steps, rd_ordered, rd_equal, rd_settled}
use Rattle.sorting.specs.Sorting.{fall_xy, fall_xz, rise_xy, rise_yz, rising, largest_first}
use Rattle.elliprg.specs.Rg.{rg, rg_unchecked, rg_steps, rg_sorted, rg_low, rg_alone, rg_settled}
use Rattle.rj_positive.specs.Positive.{rj_all, rj_positive}
use Rattle.rj_near_zero.specs.NearZero.{largest_of, distant, deltas_of, linear_of}
use Rattle.rj_near_zero.specs.NearZero.{error_of, quadratic_of, cubic_of, taylor_of, near_zero}
use Rattle.elliprj.specs.Rj.{rj, rj_signed, rj_rest, rj_settled}
use Rattle.rj_calls.specs.Run.{rj_unchecked, rj_run, plan_of, plan_near, plan_scaled, plan_unscaled}
use Rattle.settled.specs.Settled.{RC, RF, RD, RG, RJ, Whole, Holds, All, table}

-- ---- the statement
-- what has to compute: the entries down the roads that the rows take, the leaves, and IEEE 754's operations
pub sixteen : All table
unfolding rf rf_unchecked rf_steps rf_equal rf_zero
    rc rc_unchecked rc_found rc_steps rc_cases rc_at_equal
    rd rd_unchecked rd_steps rd_ordered rd_equal rd_settled
    rg rg_unchecked rg_steps rg_sorted rg_low rg_alone rg_settled fall_xy fall_xz rise_yz largest_first
    rj rj_signed rj_rest rj_unchecked rj_run rj_settled plan_of plan_near plan_scaled plan_unscaled rj_positive rj_all
    rising rise_xy
    near_zero taylor_of cubic_of quadratic_of error_of linear_of deltas_of distant largest_of
    rescaling2 rescaling3 closed_at taylor_at infinite_at settled settled_told absolute maximum minimum root rounded value fused
    of_bits add sub mul div neg lt le eq is_nan
sixteen = (
  refl,
  (
    refl,
    (
      (refl, refl),
      (
        refl,
        (
          (refl, refl),
          (
            refl,
            (
              (refl, refl),
              (
                (refl, refl),
                (
                  refl,
                  (
                    (refl, refl),
                    (
                      (refl, refl),
                      (
                        refl,
                        ((refl, refl), (refl, (refl, (refl, tt)))),
                      ),
                    ),
                  ),
                ),
              ),
            ),
          ),
        ),
      ),
    ),
  ),
)

-- ---- a row may have any answer, also one with rounds, and says that the entry gives it
pub any_answer : (x y z p : Float) (a : Answer) → (Holds (RC x y (Whole a)) ≡ (rc x y ≡ a))
    × (Holds (RF x y z (Whole a)) ≡ (rf x y z ≡ a)) × (Holds (RD x y z (Whole a)) ≡ (rd x y z ≡ a))
    × (Holds (RG x y z (Whole a)) ≡ (rg x y z ≡ a)) × (Holds (RJ x y z p (Whole a)) ≡ (rj x y z p ≡ a))
any_answer x y z p a = (refl, refl, refl, refl, refl)
