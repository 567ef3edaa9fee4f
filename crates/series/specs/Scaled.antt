-- A word Y in parts of 2 ^ -k, rounded once: the pattern of Y rounded, with k taken from its exponent's field. Assumes nothing.
use Rattle.std.specs.Prelude.{◌≡◌, ℕ, zero, suc, ◌+◌, ◌-◌, ◌*◌, ◌/◌, ◌%◌, ◌^◌, ◌<◌, ◌≤◌, false, ◌==◌, from_bits}
use Prim.Native.Nat.{compare, Ordering}
use Rattle.std.proofs.Common.{sym, ap, ◌∙◌, subst, inl, inr, le_trans, le_of_eq, lt_of_lt_of_le, mul-le-mul_right, mul-lt-mul_of_pos_right, le-div_iff_mul-le, div-lt_iff_lt-mul, mod-lt, div-add-mod', arith, pow_pos, pow-add}
use Rattle.std.specs.Float.{binary64}
use Rattle.std.specs.Float.Ieee.{size, nearest, round, neg}
use Rattle.std.specs.Float.Ieee.Digits.{size-lt, size_reaches, size-le}
use Rattle.std.specs.Float.Ieee.Fits.{nearest-le}
use Rattle.std.specs.Float.Ieee.Nearest.{nearest-ge}
use Rattle.algebra.specs.Order.{lt_or_le, Compared, compared}
use Rattle.rounding.specs.Cut.{infinity}
use Rattle.rounding.proofs.Fraction.{pick, rounded_fraction}
use Rattle.rounding.specs.Sign.{round_neg, bits_neg}

-- the sign's bit is the sign
pub with_sign : (n a c s : ℕ) → n < 2 ^ 63 → from_bits binary64 n ≡ round binary64 false a c → s ≤ 1
    → from_bits binary64 (n + s * 2 ^ 63) ≡ round binary64 (s == 1) a c
with_sign n a c zero h e l =
    let z : n + 0 * 2 ^ 63 ≡ n = omega arith in
    ap (λ (k : ℕ). from_bits binary64 k) z ∙ e
with_sign n a c (suc zero) h e l = bits_neg n h ∙ ap neg e ∙ sym (round_neg a c)
with_sign n a c (suc (suc s)) h e l = absurd (omega arith)

module _ (Y : ℕ) (range : (0 < Y) × (Y < 2 ^ 64)) where
  size_some : 1 ≤ size Y
  size_some = elim (lt_or_le 0 (size Y)) [
    | inl l ↦ l
    | inr l ↦
        let z : size Y ≡ 0 = omega arith in
        let u : Y < 2 ^ 0 = subst (λ (k : ℕ). Y < 2 ^ k) z (size-lt Y) in
        absurd (omega (arith, range.0))
  ]

  pub size_most : size Y ≤ 64
  size_most = size-le Y 64 range.1

  -- the field of Y rounded, less one; the digits that are kept, and what is left of them
  abbrev pub field : ℕ
  field = size Y + 1021

  abbrev number : ℕ
  number = Y * 2 ^ 1074

  abbrev pub kept : ℕ
  kept = number / 2 ^ field

  abbrev pub rest : ℕ
  rest = number % 2 ^ field

  abbrev pub half : Ordering
  half = compare (rest * 2) (2 ^ field)

  abbrev pub digits : ℕ
  digits = nearest kept half

  scale : (i j : ℕ) → i + field ≡ j + 1074 → 2 ^ i * 2 ^ field ≡ 2 ^ j * 2 ^ 1074
  scale i j e = sym (pow-add 2 i field) ∙ ap (λ (k : ℕ). 2 ^ k) e ∙ pow-add 2 j 1074

  kept_low : 2 ^ 52 ≤ kept
  kept_low =
      let z = size Y in
      let s : 1 ≤ z = size_some in
      let e : 52 + (z + 1021) ≡ z - 1 + 1074 = omega arith in
      (le-div_iff_mul-le (pow_pos field)).1
      (le_trans (le_of_eq (scale 52 (z - 1) e)) (mul-le-mul_right (2 ^ 1074) (size_reaches Y (z - 1) (omega arith))))

  kept_high : kept < 2 ^ 53
  kept_high =
      let z = size Y in
      let e : z + 1074 ≡ 53 + (z + 1021) = omega arith in
      (div-lt_iff_lt-mul (pow_pos field)).1
      (lt_of_lt_of_le (mul-lt-mul_of_pos_right (size-lt Y) (pow_pos 1074)) (le_of_eq (sym (scale 53 z (sym e)))))

  pub digits_low : 2 ^ 52 ≤ digits
  digits_low = le_trans kept_low (nearest-ge kept half)

  pub digits_high : digits ≤ 2 ^ 53
  digits_high = le_trans (nearest-le kept half) kept_high

  -- Y in parts of 2 ^ -k has k less in the field
  at : (k d : ℕ) → d + k ≡ field → round binary64 false Y (2 ^ k) ≡ from_bits binary64 (d * 2 ^ 52 + digits)
  at k d e =
      let f : k + d ≡ field = omega arith in
      let joined : 2 ^ k * 2 ^ d ≡ 2 ^ field = sym (pow-add 2 k d) ∙ ap (λ (n : ℕ). 2 ^ n) f in
      let small : d ≤ 1085 = omega (arith, size_most) in
      sym (rounded_fraction Y (2 ^ k) (pow_pos k))
      ∙ pick Y (2 ^ k) d kept rest (pow_pos k) (inr kept_low) kept_high
      (ap (λ (n : ℕ). kept * n + rest) joined ∙ div-add-mod' number (2 ^ field))
      (subst (λ (n : ℕ). rest < n) (sym joined) (mod-lt number (pow_pos field)))
      half (subst (λ (n : ℕ). Compared half (rest * 2) n) (sym joined) (compared (rest * 2) (2 ^ field)))
      (below_infinity d kept small kept_high)
    where
      below_infinity : (d w : ℕ) → d ≤ 1085 → w < 2 ^ 53 → d * 2 ^ 52 + w < infinity
      below_infinity d w s h = omega arith

  -- the pattern of Y itself
  abbrev pub pattern : ℕ
  pattern = field * 2 ^ 52 + digits

  pub pattern_high : pattern ≤ 1087 * 2 ^ 52
  pattern_high = sum_high (size Y) digits size_most digits_high
    where
      sum_high : (z n : ℕ) → z ≤ 64 → n ≤ 2 ^ 53 → (z + 1021) * 2 ^ 52 + n ≤ 1087 * 2 ^ 52
      sum_high z n h l = omega arith

  lower : (k : ℕ) → k ≤ 1000 → from_bits binary64 (pattern - k * 2 ^ 52) ≡ round binary64 false Y (2 ^ k)
  lower k h =
      let d = field - k in
      let s : 1 ≤ size Y = size_some in
      let e : d + k ≡ field = omega arith in
      ap (λ (n : ℕ). from_bits binary64 n) (less (size Y) digits k h s) ∙ sym (at k d e)
    where
      less : (z n k : ℕ) → k ≤ 1000 → 1 ≤ z → (z + 1021) * 2 ^ 52 + n - k * 2 ^ 52 ≡ (z + 1021 - k) * 2 ^ 52 + n
      less z n k h s = omega arith

  -- THE LAW
  pub scaled_is : (k s : ℕ) → k ≤ 1000 → s ≤ 1 → from_bits binary64 (pattern - k * 2 ^ 52 + s * 2 ^ 63) ≡ round binary64
      (s == 1) Y (2 ^ k)
  scaled_is k s h l = with_sign (pattern - k * 2 ^ 52) Y (2 ^ k) s (small pattern k pattern_high) (lower k h) l
    where
      small : (n k : ℕ) → n ≤ 1087 * 2 ^ 52 → n - k * 2 ^ 52 < 2 ^ 63
      small n k h = omega arith
