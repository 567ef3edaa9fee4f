-- The value of a pattern as n * 4 ^ y. Assumes nothing.
use Rattle.std.proofs.Common.{◌≡◌, ℕ, zero, suc, ◌+◌, ◌-◌, ◌*◌, ◌/◌, ◌%◌, ◌^◌, ◌<◌, ◌≤◌, sym, refl, ap, ◌∙◌, le_trans, le_of_eq, mul-le-mul_right, mul_assoc, one-mul, mul-one, not-le_of_lt, arith, lit≤, pow-add}
use Rattle.rounding.specs.Cut.{value}
use Rattle.rounding.proofs.Value.{value_small, value_high}
use Rattle.root.specs.Parts.{four, Scaled}

-- ---- a normal number: m * 2 ^ e units, where n is m * 2 ^ k and the exponent is even
join : (m e k y : ℕ) → e + 1022 ≡ k + (y + y) → m * 2 ^ e * four 511 ≡ m * 2 ^ k * four y
unfolding four
join m e k y h =
    mul_assoc m (2 ^ e) (2 ^ 1022)
    ∙ ap (λ (z : ℕ). m * z) (sym (pow-add 2 e 1022) ∙ ap (λ (z : ℕ). 2 ^ z) h ∙ pow-add 2 k (y + y))
    ∙ sym (mul_assoc m (2 ^ k) (2 ^ (y + y)))

module _ (b : ℕ) (l : 2 ^ 52 ≤ b) where
  -- the digits, the exponent, and the exponent's half
  abbrev m : ℕ
  m = b % 2 ^ 52 + 2 ^ 52

  abbrev e : ℕ
  e = b / 2 ^ 52 - 1

  abbrev y : ℕ
  y = (b / 2 ^ 52 + 1021) / 2

  digits : value b ≡ m * 2 ^ e
  digits = let c : 2 ^ 52 + b % 2 ^ 52 ≡ m = omega arith in value_high b l ∙ ap (λ (z : ℕ). z * 2 ^ e) c

  normal : (k n : ℕ) → m * 2 ^ k ≡ n → e + 1022 ≡ k + (y + y) → n + 2 ≤ 2 ^ 54 → 2 ^ 52 ≤ n → Scaled b n y
  normal k n i h a c = record {
    same = ap (λ (z : ℕ). z * four 511) digits ∙ join m e k y h ∙ ap (λ (z : ℕ). z * four y) i;
    low = c;
    high = a;
    small = λ u. omega arith;
  }

  pub normal_odd : b / 2 ^ 52 % 2 ≡ 1 → Scaled b m y
  normal_odd o = normal 0 m (mul-one m) (omega arith) (omega arith) (omega arith)

  pub normal_even : (b / 2 ^ 52 % 2 ≡ 1 → ⊥) → Scaled b (m * 2) y
  normal_even o = normal 1 (m * 2) refl (omega arith) (omega arith) (omega arith)

-- ---- a subnormal number: n is b * 4 ^ k, and y is 511 - k
pub step : (n y : ℕ) → 1 ≤ y → n * 4 * four (y - 1) ≡ n * four y
unfolding four
step n zero h = elim h [ ]
step n (suc y) h =
    let s : suc y - 1 ≡ y = omega arith in
    let e : suc y + suc y ≡ 2 + (y + y) = omega arith in
    rw (s, e, pow-add 2 2 (y + y), mul_assoc)

large : (b n : ℕ) → 0 < b → n * four 0 ≡ b * four 511 → 2 ^ 54 ≤ n
unfolding four
large b n B e =
    le_trans (lit≤ {m = 2 ^ 54} {n = 2 ^ 1022} tt)
    (le_trans (le_of_eq (sym (one-mul (2 ^ 1022)))) (le_trans (mul-le-mul_right (2 ^ 1022) B) (le_of_eq (sym e ∙ mul-one n))))

pub not_yet : (b n y : ℕ) → 0 < b → n < 2 ^ 54 → n * four y ≡ b * four 511 → 1 ≤ y
not_yet b n zero B h e = absurd (not-le_of_lt h (large b n B e))
not_yet b n (suc y) B h e = omega arith

pub subnormal_is : (b n y : ℕ) → b < 2 ^ 52 → n * four y ≡ b * four 511 → 2 ^ 52 ≤ n → n + 2 ≤ 2 ^ 54 → y ≤ 511 → Scaled b n y
subnormal_is b n y u e l h s = record {
  same = ap (λ (z : ℕ). z * four 511) (value_small b (omega arith)) ∙ sym e;
  low = l;
  high = h;
  small = λ u. omega arith;
}
