-- From the claim's premises to the rules: two arguments in range, the second the first times 4 ^ k, are of the kind `argument_k`
-- in two runs.
-- And what the checks on them say is the same in both runs.
use Rattle.std.specs.Prelude.{◌≡◌, ◌⊎◌, ℕ, ◌+◌, ◌*◌, ◌^◌, ◌≤◌, ◌<◌, Bool, true, false, not, ◌&&◌, ◌||◌, cond, T, ltb, eqb, Float}
use Rattle.std.proofs.Common.{sym, ap, ◌∙◌, subst, inl, inr, zero-le, mul_assoc, mul-one, mul-zero, arith, T_not, ltb→lt, lt→ltb, nltb→le, eqb→eq, pow-add, pow_pos}
use Rattle.std.proofs.Math.Nat.{eq_of_mul-eq-mul_right}
use Rattle.std.specs.Bool.{beq}
use Rattle.std.proofs.Math.Dec.{not_T}
use Rattle.std.specs.Float.{binary64}
use Rattle.std.specs.Float.Ieee.{lt, eq, le, below}
use Rattle.std.specs.Float.Ieee.Fits.{and_l}
use Rattle.scaling.specs.Units.{Is, lt_units, eq_units}
use Rattle.scaling.specs.Kind.{In}
use Rattle.scaling.proofs.Last.{digits_of, last_grain}
use Rattle.scaling.specs.Two.{Two}
use Rattle.scaling.proofs.Tests.{zero_is, no_units}
use Rattle.scaling.proofs.Signs.{above_two}
use Rattle.scaling.proofs.Plain.{whole_units_of, times_units, le_units}
use Rattle.binary64.specs.Leaves.{absolute, minimum}
use Rattle.carlson.specs.Constants.{zero}
use Rattle.units.specs.Statement.{InRange, TimesFour, least, most}
use Rattle.units.specs.Kinds.{argument_k, mean_k}

-- ---- an argument that passed the check for sign: a zero of either sign, or above zero
pub record Argument (k : ℕ) (x y : Float) : Type 0 where
  pub two : Two binary64 k argument_k x y
  pub plus : T (not (lt x zero))
