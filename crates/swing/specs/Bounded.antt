-- For arguments in range RF does not refuse, so that the only numbers are 11 and 12, and the period is a finite f64 above zero:
-- from 2 ^ -11 to 2 ^ 19 seconds (the true bounds are nearer, and nothing asks for them). Assumes nothing.
use Rattle.std.specs.Prelude.{ℕ, ◌-◌, ◌*◌, ◌^◌, ◌≤◌, ◌<◌, ◌≡◌, Bool, true, false, cond, [], Float, Ok, Err}
use Rattle.std.proofs.Math.Path.{refl}
use Rattle.std.proofs.Common.{sym, ◌∙◌, subst, lt_irrefl, arith, lt-ltb, ne_eqb, lit<}
use Rattle.std.proofs.Math.Nat.{lt_of_le_of_lt}
use Rattle.std.specs.Float.Ieee.{of_bits, is_nan, lt, eq}
use Rattle.refusals.specs.declared.Refusal.TheVariants.{Height, OutOfRange}
use Rattle.rounding.specs.Cut.{value}
use Rattle.binary64.specs.Leaves.{absolute, maximum, minimum}
use Rattle.binary64.specs.Operators.{◌⊗◌, bits}
use Rattle.carlson.specs.Constants.{zero as +0, one}
use Rattle.carlson_arguments.specs.Checks.{below3}
use Rattle.carlson_arguments.specs.Rescaling.{scale_of3, beyond_limits, rescaling3}
use Rattle.carlson.specs.Answer.{handed_at, settled}
use Rattle.carlson.specs.Only.{Only, Finite, refused}
use Rattle.carlson.specs.declared.answer.Found.{Found}
use Rattle.carlson.specs.Answer.{Answer}
use Rattle.elliprf.specs.Means.{rf_agm_of}
use Rattle.elliprf.specs.Rf.{rf_general, rf_steps, rf_unchecked, rf}
use Rattle.swing.specs.Period.{within, ratio, four_roots, times, swung, period_of, swing_numbers}
use Rattle.swing.specs.Ranges.{From1}
use Rattle.between.specs.Between.{Between}
use Rattle.between.proofs.Between.{has_value, whole_units_of, units_high, product_between}
use Rattle.swing.specs.Ratios.{power, below_one}

-- THE LAWS. A value is finite, from 2 ^ -11 to 2 ^ 19; and every answer is such a value, 11 or 12.
pub data Bounded : Answer → Type 0 where
  value_in : {f : Found} → Between (power 1012) (power 1042) f.value → Bounded (Ok f)
  no_length : Bounded (Err OutOfRange)
  no_height : Bounded (Err Height)
