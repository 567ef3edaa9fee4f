-- Demand 3 of the entry for p above zero, which is RJ there (document 02, 2026-10). Assumes nothing.
use Rattle.std.specs.Prelude.{◌≡◌, refl, ℕ, ◌+◌, ◌*◌, ◌<◌, Bool, true, not, cond, T, Float}
use Rattle.std.proofs.Common.{sym, subst, arith, ltb→lt, lt→ltb}
use Rattle.std.proofs.Math.Path.{ap₂, subst₂}
use Rattle.std.proofs.Math.Bool.{false, ◌||◌}
use Rattle.std.proofs.Math.Dec.{not_T}
use Rattle.std.specs.Float.{binary64}
use Rattle.std.specs.Float.Ieee.{eq, le, lt, below}
use Rattle.carlson.specs.Constants.{zero}
use Rattle.carlson_arguments.specs.Checks.{any_nan4, any_infinite4, below3, zeros_of3}
use Rattle.carlson_arguments.specs.Rescaling.{beyond_limits, scale_of4}
use Rattle.carlson.specs.Answer.{infinite_at}
use Rattle.carlson.specs.Answer.{Answer}
use Rattle.rj_positive.specs.Positive.{rj_positive}
use Rattle.elliprj.specs.Rj.{rj_settled, rj_rest, rj_signed, rj, rj_of_positive}
use Rattle.rj_calls.specs.Run.{plan_unscaled, plan_scaled, plan_of, rj_run, rj_unchecked}
use Rattle.elliprj.proofs.Halves.{rj_positive_is}
use Rattle.sorting.specs.Order.{lt_once}
use Rattle.scaling.specs.Kind.{Kind}
use Rattle.scaling.specs.Units.{Is, lt_units}
use Rattle.scaling.specs.Two.{Two}
use Rattle.scaling.proofs.Tests.{zero_is, zero_two, no_units}
use Rattle.scaling.proofs.One.{number, abs_units}
use Rattle.scaling.proofs.Pick.{choose}
use Rattle.scaling.proofs.Signs.{bounded}
use Rattle.units.specs.Statement.{InRange, TimesFour, Alike}
use Rattle.units.specs.Kinds.{argument_k}
use Rattle.units.proofs.Arguments.{argument, no_units_of}
use Rattle.units.proofs.Checks.{numbers3, finite3, below3_two, above3, zeros3_two, zeros_apart}
use Rattle.units.specs.Limits.{first_size, second_size, within4}
use Rattle.units.specs.Answers as answers
use Rattle.units.specs.Answers.{Pair}
use Rattle.units.proofs.Answers.{settled_same, alike_of, alike_back, onward, backward, either_way}
use Rattle.units.specs.Ran.{Ran, refusal, result}
use Rattle.units_rj.specs.Positive.{rj_k, positive_two}
use Rattle.units_rj.proofs.Rj.{scaled_above, rj_scales}

-- and of the entry for p above zero, which is RJ there (document 02, 2026-10: "demand 3 speaks of the first")
not_less : (p : Float) → T (lt zero p) → lt p zero ≡ false
not_less p t = lt_once zero p (T-is (lt zero p) t)
  where
    T-is : (b : Bool) → T b → b ≡ true
    T-is true t = refl
    T-is false t = absurd t

pub rj_positive_scales : (u d : ℕ) (x y z p x' y' z' p' : Float) → InRange x → InRange y → InRange z → InRange p → InRange x'
    → InRange y' → InRange z'
    → InRange p' → T (lt zero p)
    → TimesFour u d x x' → TimesFour u d y y' → TimesFour u d z z' → TimesFour u d p p'
    → Alike (3 * d) (3 * u) (rj_of_positive x y z p) (rj_of_positive x' y' z' p')
rj_positive_scales u d x y z p x' y' z' p' X Y Z P X' Y' Z' P' t q r s w =
    subst₂ (Alike (3 * d) (3 * u)) (sym (rj_positive_is x y z p (not_less p t)))
    (sym (rj_positive_is x' y' z' p' (not_less p' (scaled_above u d p p' P P' w t))))
    (rj_scales u d x y z p x' y' z' p' X Y Z P X' Y' Z' P' t q r s w)
