-- The rule of `Two` for the power -3/2 of a float above zero. On units the power is `power_units`: it turns the order round, takes
-- 4 ^ j units to 2 ^ (2685 - 3 j), and 4 ^ t goes through it as 8 ^ -t while the result is normal.
use Rattle.std.specs.Prelude.{◌≡◌, Bool, false, not, ◌&&◌, [], ◌∷◌, ℤ, T, ltb, leb, eqb, Float}
use Rattle.std.proofs.Math.Path.{refl}
use Rattle.std.proofs.Common.{sym, ap, ap₂, ◌∙◌, subst, subst₂, inr, le_refl, le_trans, le_of_eq, lt_of_lt_of_le, lt_of_le_of_lt, lt_irrefl, mul-zero, mul-one, mul-pos, mul-le-mul, mul-le-mul_left, arith, ltb→lt, leb→le, le→leb, eqb→eq, pow-add, pow_mono, pow_pos}
use Prim.Native.Nat.{Ordering}
use Prim.Native.Nat.{ℕ, zero, suc, ◌+◌, ◌-◌, ◌*◌, ◌/◌, ◌^◌, ◌≤◌, ◌<◌, compare}
use Rattle.std.proofs.Math.Nat.{eq_of_mul-eq-mul_right}
use Rattle.std.proofs.Math.Dec.{is_le}
use Rattle.std.proofs.Math.Pow.{pow-lt}
use Rattle.std.specs.Float.{fin, binary64}
use Rattle.std.specs.Float.Ieee.{up, down, size}
use Rattle.std.specs.Float.Ieee.Digits.{size-lt, size_reaches}
use Rattle.std.specs.Float.Ieee.Fits.{and_l, and_r, down_pos}
use Rattle.algebra.specs.Ring.{con, ◌:*◌, ◌≈◌, ◌⊩◌, ◌times◌≼◌}
use Rattle.algebra.proofs.Ring.{ring}
use Rattle.algebra.specs.Order.{eq_compare}
use Rattle.rounding.specs.Cut.{value, infinity, rounded}
use Rattle.rounding.specs.Laws.{Number, found}
use Rattle.power.specs.Power.{cube, power_of, power}
use Rattle.power.specs.Laws.{power_number, same_power}
use Rattle.scaling.specs.Units.{Is, form}
use Rattle.scaling.specs.Kind.{Kind, In, floor, last}
use Rattle.scaling.specs.Rounded.{units_of, rounded_is, value_power, value_below, value_infinity, compare_weaker, units_mono}
use Rattle.scaling.specs.Rounded.{units_exact, units_scale}
use Rattle.scaling.specs.Two.{Two}

-- ---- the power of n units, in units
unfoldable pub power_units : ℕ → ℕ
power_units n = units_of (power_of n (2 ^ 1074))

unfoldable pub power_k : Kind → Kind
unfolding size
power_k A = record {
  any = false;
  zer = false;
  lo = 2 ^ (2685 - 3 * ((size (A.hi - 1) + 1) / 2));
  hi = 2 ^ (2685 - 3 * ((size A.lo - 1) / 2));
  g = last binary64 (2 ^ (2685 - 3 * ((size (A.hi - 1) + 1) / 2)));
  u = 0;
  d = 3 * (A.u / 2);
}

-- 4 ^ j has a power that neither overflows nor is subnormal
abbrev pub power_fits : ℕ → Bool
power_fits j = leb 588 (3 * j) && leb (3 * j + 52) 2685

-- the weight is even and has no divisor; nothing overflows, and the result is normal
unfoldable pub power_ok : Kind → Bool
unfolding power_k
power_ok A =
    (not A.any && ltb 0 (floor A))
    && (eqb A.u (2 * (A.u / 2)) && eqb A.d 0)
    && (power_fits ((size A.lo - 1) / 2) && power_fits ((size (A.hi - 1) + 1) / 2))
