-- The door in front of an entry: each argument within the limits of rescaling, or the first one zero. THE LAW: no check refuses
-- such arguments, and nothing is rescaled. Assumes nothing.
use Rattle.std.specs.Prelude.{ℕ, zero, suc, ◌+◌, ◌*◌, ◌<◌, ◌≤◌, ◌≡◌, Bool, true, ◌&&◌, ◌||◌, ltb, ℤ, Float}
use Rattle.std.proofs.Math.Path.{refl}
use Rattle.std.proofs.Common.{sym, ap, ap₂, ◌∙◌, subst, true≢false, le_of_lt, zero-lt-suc, zero-mul, mul-pos, arith, ltb-true, lt-ltb, le-ltb}
use Rattle.std.proofs.Math.Bool.{false}
use Rattle.std.specs.Float.{nan, inf, fin}
use Rattle.std.specs.Float.Ieee.{up, down, is_nan, lt, eq, le, of_bits}
use Rattle.std.specs.Float.Ieee.Fits.{up_pos, down_pos}
use Rattle.std.specs.Float.Ieee.Scale.{finite}
use Rattle.binary64.specs.Leaves.{absolute, maximum, minimum}
use Rattle.binary64.specs.Tests.{zero_above, number, number_above, Zero, a_zero, is_zero}
use Rattle.derived.specs.Limits.{limit, reciprocal}
use Rattle.carlson.specs.Constants.{infinity}
use Rattle.carlson_arguments.specs.Checks.{
  any_nan2,
  any_nan3,
  any_nan4,
  any_infinite2,
  any_infinite3,
  any_infinite4,
  below3,
  zeros_of3,
}
use Rattle.carlson_arguments.specs.Rescaling.{
  scale_of2,
  scale_of3,
  scale_of4,
  beyond_limits,
  survive2,
  survive3,
  survive4,
  rescales2,
  rescales3,
  rescales4,
  rescaling2,
  rescaling3,
}
use Rattle.carlson.proofs.Only.{chosen}

-- ---- the door
unfoldable pub moderate : Float → Bool
moderate x = lt reciprocal x && lt x limit

-- RC's, whose second argument may be below zero
unfoldable pub moderate2 : Float → Float → Bool
moderate2 x y = (moderate x || eq x zero_above) && moderate (absolute y)

unfoldable pub moderate3 : Float → Float → Float → Bool
moderate3 x y z = (moderate x || eq x zero_above) && (moderate y && moderate z)

unfoldable pub moderate4 : Float → Float → Float → Float → Bool
moderate4 x y z p = moderate3 x y z && moderate p
