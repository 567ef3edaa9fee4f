-- The rule of `Two` for the square root. On units the root is `root_units`: it keeps the order, takes 4 ^ j units to 2 ^ (537 +
-- j), and 4 ^ t goes through it as 2 ^ t, at a subnormal argument too, for a root is never subnormal.
use Rattle.std.specs.Prelude.{◌≡◌, Bool, false, not, ◌&&◌, [], ◌∷◌, ℤ, T, ltb, leb, eqb, Float}
use Rattle.std.proofs.Math.Path.{refl, fun_ext}
use Rattle.std.proofs.Common.{sym, ap, ap₂, ◌∙◌, subst, subst₂, inl, inr, le_refl, le_trans, le_of_eq, le_of_lt, lt_of_le_of_lt, lt_of_lt_of_le, eq-zero-or-pos, mul_assoc, mul-pos, mul-le-mul_right, zero-mul, zero-lt-suc, arith, ltb→lt, leb→le, le→leb, eqb→eq, pow-add, pow_mono, pow_pos}
use Prim.Native.Nat.{Ordering}
use Prim.Native.Nat.{ℕ, zero, suc, ◌+◌, ◌-◌, ◌*◌, ◌/◌, ◌^◌, ◌≤◌, ◌<◌, compare}
use Rattle.std.proofs.Math.Nat.{eq_of_mul-eq-mul_right}
use Rattle.std.proofs.Math.Dec.{is_le}
use Rattle.std.proofs.Math.Pow.{pow-lt}
use Rattle.std.specs.Float.{fin, binary64}
use Rattle.std.specs.Float.Ieee.{up, down, size}
use Rattle.std.specs.Float.Ieee.Digits.{size-lt, size-le, size_reaches}
use Rattle.std.specs.Float.Ieee.Fits.{and_l, and_r, down_pos}
use Rattle.algebra.specs.Ring.{con, ◌:*◌, ◌≈◌, ◌⊩◌, ◌times◌≼◌}
use Rattle.algebra.proofs.Ring.{ring, below}
use Rattle.algebra.specs.Order.{lt_or_le, eq_compare, scaled_compare}
use Rattle.rounding.specs.Cut.{value, infinity, rounded}
use Rattle.rounding.proofs.Value.{value_small}
use Rattle.rounding.specs.Laws.{Number, found}
use Rattle.root.specs.Root.{root_of, root}
use Rattle.root.proofs.Laws.{root_number}
use Rattle.scaling.specs.Near.{size_above}
use Rattle.scaling.specs.Units.{Is, form}
use Rattle.scaling.specs.Kind.{Kind, In, last}
use Rattle.scaling.specs.Rounded.{units_of, rounded_is, value_power, value_below, value_infinity, compare_weaker, units_mono}
use Rattle.scaling.specs.Rounded.{units_exact, units_scale}
use Rattle.scaling.specs.Two.{Two}

-- ---- the root of n units, in units
unfoldable pub root_units : ℕ → ℕ
root_units n = units_of (root_of n (2 ^ 1074))

-- ---- the kind of a root: between the roots of powers of four
unfoldable pub root_k : Kind → Kind
unfolding size
root_k A = record {
  any = false;
  zer = A.zer;
  lo = 2 ^ (537 + (size A.lo - 1) / 2);
  hi = 2 ^ (537 + (size (A.hi - 1) + 1) / 2);
  g = last binary64 (2 ^ (537 + (size A.lo - 1) / 2));
  u = A.u / 2;
  d = A.d / 2;
}

-- not negative, and of even weight; the bounds are those of floats
unfoldable pub root_ok : Kind → Bool
root_ok A = (not A.any && ltb 0 A.lo && leb A.hi (2 ^ 2098))
    && (eqb A.u (2 * (A.u / 2)) && eqb A.d (2 * (A.d / 2)))
