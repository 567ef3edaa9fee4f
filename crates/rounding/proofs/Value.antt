-- The value of a pattern: each pattern's is above the one before, and it is the value of the f64 that has the pattern. Assumes
-- nothing.
use Rattle.std.specs.Prelude.{ℕ, zero, suc, ◌+◌, ◌-◌, ◌*◌, ◌/◌, ◌%◌, ◌^◌, ◌≤◌, ◌<◌, ◌≡◌, refl, false, leb}
use Rattle.std.proofs.Common.{sym, ap, ◌∙◌, subst, inl, inr, mul-one, add-mul, one-mul, arith, le-ltb, lt-ltb, ne_eqb, pow_pos}
use Rattle.std.proofs.Math.Nat.{pow-succ'}
use Rattle.std.proofs.lemmas.Bool.{lt-leb}
use Rattle.std.specs.Float.{inf, binary64}
use Rattle.std.specs.Float.Ieee.{odd, of_fields, of_bits}
use Rattle.std.specs.Float.Ieee.Exact.{HasValue, odd_sign}
use Rattle.algebra.specs.Order.{lt_or_le}
use Rattle.rounding.specs.Cut.{value, infinity}

-- ---- in closed form
value_low : (b : ℕ) → b < 2 ^ 52 → value b ≡ b
unfolding value
value_low b h = rw (lt-ltb b (2 ^ 52))

pub value_high : (b : ℕ) → 2 ^ 52 ≤ b → value b ≡ (2 ^ 52 + b % 2 ^ 52) * 2 ^ (b / 2 ^ 52 - 1)
unfolding value
value_high b h = rw (le-ltb b (2 ^ 52))

-- the digits c, the leading one among them, and y more in the exponent's field
pub value_at : (y c : ℕ) → 2 ^ 52 ≤ c → c ≤ 2 ^ 53 → value (y * 2 ^ 52 + c) ≡ c * 2 ^ y
value_at y c l u =
    let n = y * 2 ^ 52 + c in
    let d : 2 ^ 52 ≤ n = omega arith in
    value_high n d ∙ elim (lt_or_le c (2 ^ 53)) [
      | inl h ↦
          let a : n / 2 ^ 52 - 1 ≡ y = omega arith in
          let b : 2 ^ 52 + n % 2 ^ 52 ≡ c = omega arith in
          rw (a, b)
      | inr h ↦
          let a : n / 2 ^ 52 - 1 ≡ suc y = omega arith in
          let b : 2 ^ 52 + n % 2 ^ 52 ≡ 2 ^ 52 = omega arith in
          let e : c ≡ 2 ^ 53 = omega arith in
          rw (a, b, e, pow-succ' 2 y) (omega arith)
    ]

-- a pattern up to 2 ^ 53 is its own value
pub value_small : (b : ℕ) → b ≤ 2 ^ 53 → value b ≡ b
value_small b h = elim (lt_or_le b (2 ^ 52)) [
  | inl l ↦ value_low b l
  | inr l ↦ let e : b ≡ 0 * 2 ^ 52 + b = omega arith in ap value e
      ∙ value_at 0 b l h ∙ mul-one b
]

-- ---- from a pattern to the next
pub value_suc : (b : ℕ) → value (suc b) ≡ value b + 2 ^ (b / 2 ^ 52 - 1)
value_suc b = elim (lt_or_le b (2 ^ 52)) [
  | inl l ↦
      let e : b / 2 ^ 52 - 1 ≡ 0 = omega arith in
      rw (value_small (suc b) (omega arith), value_small b (omega arith), e) (omega arith)
  | inr l ↦
      let y = b / 2 ^ 52 - 1 in
      let c = 2 ^ 52 + b % 2 ^ 52 in
      let e : suc b ≡ y * 2 ^ 52 + (c + 1) = omega arith in
      ap value e ∙ value_at y (c + 1) (omega arith) (omega arith) ∙ add-mul c 1 (2 ^ y)
      ∙ ap (λ (z : ℕ). c * 2 ^ y + z) (one-mul (2 ^ y))
      ∙ ap (λ (z : ℕ). z + 2 ^ y) (sym (value_high b l))
]

pub value_up : (b : ℕ) → value b < value (suc b)
value_up b = omega (arith, value_suc b, pow_pos (b / 2 ^ 52 - 1))

pub value_lt : (j n : ℕ) → j < n → value j < value n
value_lt j zero h = omega arith
value_lt j (suc n) h = elim (lt_or_le j n) [
  | inl l ↦ omega (arith, value_lt j n l, value_up n)
  | inr l ↦ let e : j ≡ n = omega arith in
      subst (λ (z : ℕ). value z < value (suc n)) (sym e) (value_up n)
]

-- ---- the f64 of the pattern
of_bits_is : (b : ℕ) → of_bits binary64 b ≡ of_fields binary64 (leb (2 ^ 63) b) (b % 2 ^ 63 / 2 ^ 52) (b % 2 ^ 52)
unfolding of_bits
of_bits_is b = refl

fields_low : (t : ℕ) → of_fields binary64 false 0 t ≡ odd 53 false t 0 1074
unfolding of_fields
fields_low t = refl

fields_high : (y t : ℕ) → suc y < 2047 → of_fields binary64 false (suc y) t ≡ odd 53 false (2 ^ 52 + t) y 1074
unfolding of_fields
fields_high y t h = let e : suc y ≡ 2047 → ⊥ = λ q. omega arith in rw (ne_eqb (suc y) 2047 e)

pub value_is : (b : ℕ) → b < infinity → HasValue (of_bits binary64 b) false (value b) (2 ^ 1074)
value_is b h =
    let m : b % 2 ^ 63 ≡ b = omega arith in
    let s : of_bits binary64 b ≡ of_fields binary64 false (b / 2 ^ 52) (b % 2 ^ 52) = of_bits_is b
    ∙ rw (lt-leb (2 ^ 63) b (omega arith), m) in
    rw s (elim (lt_or_le b (2 ^ 52)) [
      | inl l ↦
          let e : b / 2 ^ 52 ≡ 0 = omega arith in
          let f : b % 2 ^ 52 ≡ b = omega arith in
          rw (e, f, fields_low, value_low b l) (rw mul-one at (odd_sign 53 false b 0 1074))
      | inr l ↦
          let e : b / 2 ^ 52 ≡ suc (b / 2 ^ 52 - 1) = omega arith in
          rw (e, fields_high (b / 2 ^ 52 - 1) (b % 2 ^ 52) (omega arith), value_high b l)
          (odd_sign 53 false (2 ^ 52 + b % 2 ^ 52) (b / 2 ^ 52 - 1) 1074)
    ])

pub infinity_is : of_bits binary64 infinity ≡ inf false
unfolding of_bits
infinity_is = refl
