-- The bit pattern of an f64 above zero that has n units of 2 ^ -1074: its value is n. Assumes nothing.
use Rattle.std.specs.Prelude.{ℕ, ◌+◌, ◌-◌, ◌*◌, ◌/◌, ◌^◌, ◌≤◌, ◌<◌, ◌≡◌, false, Float}
use Rattle.std.proofs.Common.{sym, ◌∙◌, inl, inr, le_refl, le_of_eq, mul-div_cancel, div-lt_iff_lt-mul, le-div_iff_mul-le, zero-add, pow_pos, pow_mono}
use Rattle.std.proofs.Math.Path.{ap}
use Rattle.std.proofs.Math.Nat.{le_trans, lt_of_lt_of_le}
use native.Mathlib.Omega.{arith}
use Rattle.std.proofs.Math.Pow.{pow-add}
use Rattle.std.specs.Float.{binary64}
use Rattle.std.specs.Float.Ieee.{size, of_bits, to_bits}
use Rattle.std.specs.Float.Ieee.Bits.{of_bits-to_bits}
use Rattle.std.specs.Float.Ieee.Digits.{size-lt, size_reaches}
use Rattle.algebra.specs.Order.{lt_or_le}
use Rattle.rounding.specs.Cut.{value}
use Rattle.rounding.proofs.Value.{value_at, value_small}
use Rattle.scaling.specs.Units.{Is, bits, is_bits}
use Rattle.scaling.proofs.Last.{digits_of, multiple}

-- the pattern of n units, with the sign's bit not set
unfoldable pub pattern : ℕ → ℕ
pattern n = (size n - 53) * 2 ^ 52 + n / 2 ^ (size n - 53)

plain : (n : ℕ) → bits binary64 false n ≡ pattern n
unfolding bits pattern
plain n = ap (λ (h : ℕ). h + n / 2 ^ (size n - 53)) (zero-add ((size n - 53) * 2 ^ 52))

module _ {x : Float} {n : ℕ} (is : Is binary64 x false n) where
  pub bits_are : to_bits binary64 x ≡ pattern n
  bits_are = is_bits binary64 x false n is ∙ plain n

  pub named : x ≡ of_bits binary64 (pattern n)
  named = sym (of_bits-to_bits binary64 x is.fit) ∙ ap (λ (b : ℕ). of_bits binary64 b) bits_are

  -- n has 53 digits, and the rest of it is zeros
  whole : n / 2 ^ (size n - 53) * 2 ^ (size n - 53) ≡ n
  whole =
      let z = size n - 53 in
      let m = multiple n (digits_of is) (le_refl n) in
      ap (λ (k : ℕ). k * 2 ^ z) (ap (λ (k : ℕ). k / 2 ^ z) m.is ∙ mul-div_cancel m.c (pow_pos z)) ∙ sym m.is

  large : 53 < size n → value (pattern n) ≡ n
  unfolding pattern
  large l =
      let z = size n - 53 in
      let low : 52 + z < size n = omega arith in
      let top : 53 + z ≡ size n = omega arith in
      let least : 2 ^ 52 * 2 ^ z ≤ n = le_trans (le_of_eq (sym (pow-add 2 52 z))) (size_reaches n (52 + z) low) in
      let most : n < 2 ^ 53 * 2 ^ z = lt_of_lt_of_le (size-lt n) (le_of_eq (ap (λ (k : ℕ). 2 ^ k) (sym top) ∙ pow-add 2 53 z)) in
      let c = n / 2 ^ z in
      let c-least : 2 ^ 52 ≤ c = (le-div_iff_mul-le (pow_pos z)).1 least in
      let c-most : c < 2 ^ 53 = (div-lt_iff_lt-mul (pow_pos z)).1 most in
      value_at z c c-least (omega arith) ∙ whole

  small : size n ≤ 53 → value (pattern n) ≡ n
  unfolding pattern
  small l =
      let z : size n - 53 ≡ 0 = omega arith in
      let one : n / 1 ≡ n = omega arith in
      let same : (size n - 53) * 2 ^ 52 + n / 2 ^ (size n - 53) ≡ n = rw (z, one) (omega arith) in
      let most : n < 2 ^ 53 = lt_of_lt_of_le (size-lt n) (pow_mono l) in
      ap value same ∙ value_small n (omega arith)

  pub value_back : value (pattern n) ≡ n
  value_back = elim (lt_or_le 53 (size n)) [ inl l ↦ large l | inr l ↦ small l ]
