-- Which case of a definition a pattern falls under, b being x's. Assumes nothing.
use Rattle.std.specs.Prelude.{◌≡◌, ℕ, zero, suc, ◌+◌, ◌-◌, ◌*◌, ◌/◌, ◌%◌, ◌^◌, ◌<◌, ◌≤◌, true, false, T, ◌≢◌, from_bits, to_bits, Float}
use Rattle.std.proofs.Math.Path.{sym, ap}
use Rattle.std.proofs.Common.{◌∙◌, inl, inr, pow_mono}
use native.Mathlib.Omega.{arith}
use borrow.Author.Tests.{lt-ltb, le-ltb, le-leb, lt-leb, eq-eqb, ne_eqb}
use Rattle.std.specs.Float.{nan}
use Rattle.std.specs.Float.Ieee.{inf, binary64, size, fits}
use Rattle.std.specs.Float.Ieee.Bits.{of_bits-to_bits}
use Rattle.std.specs.Float.Ieee.Digits.{size-le}
use Rattle.algebra.specs.Order.{lt_or_le}
use Rattle.rounding.specs.Cut.{infinity}
use Rattle.rounding.proofs.Value.{infinity_is}
use Rattle.series.specs.Pattern.{negative, size_bits, field, digits}
use Rattle.series.specs.Atan as arc
use Rattle.series.specs.Ln as logarithm
use Rattle.series.specs.Ln1p as one-plus
use Rattle.series.specs.Ranges.{Exponent, Small, Close}
use Rattle.series.specs.Exponents.{size_least, full_low, full_high}

module _ (x : Float) (b : ℕ) (is : b ≡ to_bits binary64 x) where
  abbrev a : ℕ
  a = size_bits b

  -- ---- ln_1p
  pub ln_1p_tiny : a < one-plus.tiny → x ≡ one-plus.ln_1p x
  unfolding one-plus.ln_1p
  ln_1p_tiny h = rw (← is, lt-ltb a one-plus.tiny h)

  pub ln_1p_small : one-plus.tiny ≤ a → a ≤ one-plus.last → one-plus.ln_1p_of (negative b) a ≡ one-plus.ln_1p x
  unfolding one-plus.ln_1p
  ln_1p_small h l = rw (← is, le-ltb a one-plus.tiny h, le-leb a one-plus.last l)

  pub ln_1p_none : one-plus.tiny ≤ a → one-plus.last < a → nan ≡ one-plus.ln_1p x
  unfolding one-plus.ln_1p
  ln_1p_none h l = rw (← is, le-ltb a one-plus.tiny h, lt-leb a one-plus.last l)

  -- ---- ln
  pub ln_under : b < logarithm.two → logarithm.ln_below_two b ≡ logarithm.ln x
  unfolding logarithm.ln
  ln_under h = rw (← is, lt-ltb b logarithm.two h)

  pub ln_from : logarithm.two ≤ b → b < infinity → logarithm.ln_from_two (field b - 1023) (digits b) ≡ logarithm.ln x
  unfolding logarithm.ln
  ln_from h l = rw (← is, le-ltb b logarithm.two h, lt-ltb b infinity l)

  pub ln_infinity : T (fits binary64 x) → b ≡ infinity → x ≡ logarithm.ln x
  unfolding logarithm.ln
  ln_infinity f e =
      let i : x ≡ inf false = sym (of_bits-to_bits binary64 x f) ∙ ap (λ (n : ℕ). from_bits binary64 n) (sym is ∙ e) ∙ infinity_is in
      let h : logarithm.two ≤ b = omega arith in
      let l : infinity ≤ b = omega arith in
      i ∙ rw (← is, le-ltb b logarithm.two h, le-ltb b infinity l, eq-eqb b infinity e)

  pub ln_minus_zero : b ≡ logarithm.minus_zero → inf true ≡ logarithm.ln x
  unfolding logarithm.ln
  ln_minus_zero e =
      let h : logarithm.two ≤ b = omega arith in
      let l : infinity ≤ b = omega arith in
      let d : b ≡ infinity → ⊥ = λ f. omega arith in
      rw (← is, le-ltb b logarithm.two h, le-ltb b infinity l, ne_eqb b infinity d, eq-eqb b logarithm.minus_zero e)

  pub ln_past : infinity ≤ b → (b ≢ infinity) → (b ≢ logarithm.minus_zero) → nan ≡ logarithm.ln x
  unfolding logarithm.ln
  ln_past l d z =
      let h : logarithm.two ≤ b = omega arith in
      rw (← is, le-ltb b logarithm.two h, le-ltb b infinity l, ne_eqb b infinity d, ne_eqb b logarithm.minus_zero z)

  -- ---- atan
  pub atan_tiny : a < arc.tiny → x ≡ arc.atan x
  unfolding arc.atan
  atan_tiny h = rw (← is, lt-ltb a arc.tiny h)

  pub atan_below_one : arc.tiny ≤ a → a < arc.one → arc.below_one (negative b) a ≡ arc.atan x
  unfolding arc.atan
  atan_below_one h l = rw (← is, le-ltb a arc.tiny h, lt-ltb a arc.one l)

  pub atan_at_one : a ≡ arc.one → arc.at_one (negative b) ≡ arc.atan x
  unfolding arc.atan
  atan_at_one e =
      let h : arc.tiny ≤ a = omega arith in
      let l : arc.one ≤ a = omega arith in
      rw (← is, le-ltb a arc.tiny h, le-ltb a arc.one l, eq-eqb a arc.one e)

  pub atan_above_one : arc.one ≤ a → (a ≢ arc.one) → a < arc.far → arc.above_one (negative b) a ≡ arc.atan x
  unfolding arc.atan
  atan_above_one l d k =
      let h : arc.tiny ≤ a = omega arith in
      rw (← is, le-ltb a arc.tiny h, le-ltb a arc.one l, ne_eqb a arc.one d, lt-ltb a arc.far k)

  -- the same where no sign is set
  pub atan_plain_below : arc.tiny ≤ b → b < arc.one → arc.below_one false b ≡ arc.atan x
  unfolding arc.atan
  atan_plain_below h l =
      let e : b % 2 ^ 63 ≡ b = omega arith in
      let f : b / 2 ^ 63 ≡ 0 = omega arith in
      rw (← is, f, e, le-ltb b arc.tiny h, lt-ltb b arc.one l)

  pub atan_plain_above : arc.one < b → b < arc.far → arc.above_one false b ≡ arc.atan x
  unfolding arc.atan
  atan_plain_above l k =
      let e : b % 2 ^ 63 ≡ b = omega arith in
      let f : b / 2 ^ 63 ≡ 0 = omega arith in
      let h : arc.tiny ≤ b = omega arith in
      let m : arc.one ≤ b = omega arith in
      let d : b ≡ arc.one → ⊥ = λ i. omega arith in
      rw (← is, f, e, le-ltb b arc.tiny h, le-ltb b arc.one m, ne_eqb b arc.one d, lt-ltb b arc.far k)

  pub atan_far : arc.far ≤ a → a ≤ infinity → arc.at_infinity (negative b) ≡ arc.atan x
  unfolding arc.atan
  atan_far k i =
      let h : arc.tiny ≤ a = omega arith in
      let l : arc.one ≤ a = omega arith in
      let d : a ≡ arc.one → ⊥ = λ e. omega arith in
      rw (← is, le-ltb a arc.tiny h, le-ltb a arc.one l, ne_eqb a arc.one d, le-ltb a arc.far k, le-leb a infinity i)

  pub atan_none : infinity < a → nan ≡ arc.atan x
  unfolding arc.atan
  atan_none i =
      let h : arc.tiny ≤ a = omega arith in
      let l : arc.one ≤ a = omega arith in
      let d : a ≡ arc.one → ⊥ = λ e. omega arith in
      let k : arc.far ≤ a = omega arith in
      rw (← is, le-ltb a arc.tiny h, le-ltb a arc.one l, ne_eqb a arc.one d, le-ltb a arc.far k, lt-leb a infinity i)

-- ---- ln below 2, by the pattern b
module _ (b : ℕ) where
  pub ln_zero : b ≡ 0 → inf true ≡ logarithm.ln_below_two b
  ln_zero e = rw (eq-eqb b 0 e)

  some : 1 ≤ b → b ≢ 0
  some h e = omega arith

  pub ln_below_half : 1 ≤ b → b < logarithm.half
      → logarithm.ln_below_half (logarithm.below_exponent b) (logarithm.full_digits b) ≡ logarithm.ln_below_two b
  ln_below_half h l = rw (ne_eqb b 0 (some h), lt-ltb b logarithm.half l)

  pub ln_below_one : logarithm.half ≤ b → b < logarithm.one
      → logarithm.ln_close true (logarithm.one - b) ≡ logarithm.ln_below_two b
  ln_below_one h l = rw (ne_eqb b 0 (some (omega arith)), le-ltb b logarithm.half h, lt-ltb b logarithm.one l)

  pub ln_one : b ≡ logarithm.one → from_bits binary64 0 ≡ logarithm.ln_below_two b
  ln_one e =
      let h : logarithm.half ≤ b = omega arith in
      let l : logarithm.one ≤ b = omega arith in
      rw (ne_eqb b 0 (some (omega arith)), le-ltb b logarithm.half h, le-ltb b logarithm.one l, eq-eqb b logarithm.one e)

  pub ln_above_one : logarithm.one ≤ b → (b ≢ logarithm.one)
      → logarithm.ln_close false (2 * (b - logarithm.one)) ≡ logarithm.ln_below_two b
  ln_above_one l d =
      let h : logarithm.half ≤ b = omega arith in
      rw (ne_eqb b 0 (some (omega arith)), le-ltb b logarithm.half h, le-ltb b logarithm.one l, ne_eqb b logarithm.one d)

  -- its exponent and its digits
  pub subnormal : b < 2 ^ 52 → (logarithm.below_exponent b ≡ 1074 - size b) × (logarithm.full_digits b ≡ b * 2 ^ (53 - size b))
  subnormal h = (rw (lt-ltb b (2 ^ 52) h), rw (lt-ltb b (2 ^ 52) h))

  pub normal : 2 ^ 52 ≤ b → (logarithm.below_exponent b ≡ 1022 - field b) × (logarithm.full_digits b ≡ digits b)
  normal h = (rw (le-ltb b (2 ^ 52) h), rw (le-ltb b (2 ^ 52) h))

-- ---- the ranges
three_quarters : (j m : ℕ) → m < 2 ^ 53 → (j ≡ 0 → m ≤ 3 * 2 ^ 51) → 4 * m ≤ 3 * 2 ^ (53 + j)
three_quarters zero m h l = let k = l (omega arith) in omega arith
three_quarters (suc j) m h l = omega (arith, pow_mono {i = 54} {j = 53 + suc j} (omega arith))

pub ln_1p_range : (a : ℕ) → one-plus.tiny ≤ a → a ≤ one-plus.last → Small (1022 - field a) (digits a)
ln_1p_range a h l = record {
  most = omega arith;
  low = omega arith;
  high = omega arith;
  small = three_quarters (1022 - field a) (digits a) (omega arith) (λ e. omega arith);
}

pub ln_range : (b : ℕ) → logarithm.two ≤ b → b < infinity → Exponent (field b - 1023) (digits b)
ln_range b h l = record { least = omega arith; most = omega arith; low = omega arith; high = omega arith }

pub ln_below_range : (b : ℕ) → 1 ≤ b → b < logarithm.half → Exponent (logarithm.below_exponent b) (logarithm.full_digits b)
ln_below_range b h l = elim (lt_or_le b (2 ^ 52)) [
  | inl k ↦
      let few : size b ≤ 52 = size-le b 52 k in
      let some = size_least b h in
      let most : b < 2 ^ 53 = omega arith in
      rw ((subnormal b k).0, (subnormal b k).1)
      (record { least = omega arith; most = omega arith; low = full_low b h most; high = full_high b h most })
  | inr k ↦
      rw ((normal b k).0, (normal b k).1)
      (record { least = omega arith; most = omega arith; low = omega arith; high = omega arith })
]

-- up to 3/4 is up to 1
pub up_to_one : {j m : ℕ} (s : ℕ) → Small j m → Close s j m
up_to_one s h = record { most = h.most; low = h.low; high = h.high; small = λ e. h.small }
