-- What the tests before RC's logarithms tell of x and y: x is above zero and no less than y, which is a zero or above it too;
-- and by the last test x is twice y or more, or twice y at most. Assumes nothing.
use Rattle.std.specs.Prelude.{◌≡◌, refl, ◌⊎◌, Bool, true, false, not, ℕ, ◌+◌, ◌*◌, ◌^◌, ◌≤◌, ◌<◌, T, Float}
use Rattle.std.proofs.Common.{sym, ap, ◌∙◌, subst, inl, inr, true≢false, le_of_eq, lt_of_le_of_lt, eq-zero-or-pos, mul-le-mul_right, zero-lt-suc, arith, T_not, ltb→lt, nltb→le, lit<}
use Rattle.std.specs.Float.{nan, inf, fin, binary64}
use Rattle.std.specs.Float.Ieee.{low, unlike, lt, eq, below, level, fits, of_bits}
use Rattle.std.specs.Float.Ieee.Scale.{finite}
use Rattle.binary64.specs.Operators.{◌⊘◌}
use Rattle.scaling.specs.Near.{near, near_mono, near_exact}
use Rattle.scaling.specs.Units.{Is, div_units, lt_units, eq_units}
use Rattle.scaling.proofs.Last.{digits_of}
use Rattle.scaling.proofs.Plain.{whole_units_of}
use Rattle.scaling.proofs.Tests.{zero_is}
use Rattle.carlson.specs.Constants.{zero, half}
use Rattle.asked.specs.Twice.{at_most_half, more_than_half}

-- the two of a branch, with the tests that led there
pub record Tested (x y : Float) : Type 0 where
  pub fit_x : T (fits binary64 x)
  pub fit_y : T (fits binary64 y)
  pub not_zero : T (not (eq x zero))
  pub not_less : T (not (lt x y))
  pub y_above : T (not (lt y zero))

pub record Ordered (x y : Float) : Type 0 where
  pub X : ℕ
  pub Y : ℕ
  pub t : Bool
  pub x_is : Is binary64 x false X
  pub y_is : Is binary64 y t Y
  pub pos : 0 < X
  pub most : Y ≤ X
  pub sign : (t ≡ false) ⊎ (Y ≡ 0)
