-- A bit pattern below the infinity's, and the sign and the value of its f64. Assumes nothing.
use Rattle.std.proofs.Common.{◌≡◌, ℕ, zero, suc, ◌+◌, ◌*◌, ◌/◌, ◌%◌, ◌^◌, ◌<◌, ◌≤◌, Bool, true, false, cond, not, ◌&&◌, T, eqb, ltb, leb, sym, refl, ap, ◌∙◌, subst, inl, inr, mul-one, arith, ltb→lt, leb→le, ne_eqb}
use lib.Ieee.{Float, nan, inf, fin, binary64, odd, fits, is_nan, of_fields, of_bits, to_bits}
use lib.Ieee.Fits.{and_l, and_r}
use lib.Ieee.Exact.{HasValue, odd_sign}
use lib.Ieee.Bits.{of_bits-to_bits}
use Rattle.algebra.specs.Order.{lt_or_le}
use Rattle.rounding.specs.Cut.{value, infinity}
use Rattle.rounding.proofs.Value.{value_at, value_small}
use Rattle.binary64.specs.Tests.{number}
use Rattle.fused.specs.Fused.{fused}

of_bits_is : (b : ℕ) → of_bits binary64 b ≡ of_fields binary64 (leb (2 ^ 63) b) (b % 2 ^ 63 / 2 ^ 52) (b % 2 ^ 52)
unfolding of_bits
of_bits_is b = refl

-- ---- its value
fields_value : (s : Bool) (y t : ℕ) → y < 2047 → t < 2 ^ 52
    → HasValue (of_fields binary64 s y t) s (value (y * 2 ^ 52 + t)) (2 ^ 1074)
unfolding of_fields
fields_value s zero t h l =
    let e : 0 * 2 ^ 52 + t ≡ t = omega arith in
    subst (λ (v : ℕ). HasValue (odd 53 s t 0 1074) s v (2 ^ 1074))
    (mul-one t ∙ sym (value_small t (omega arith)) ∙ ap value (sym e))
    (odd_sign 53 s t 0 1074)
fields_value s (suc y) t h l =
    let n : suc y ≡ 2047 → ⊥ = λ q. omega arith in
    let e : suc y * 2 ^ 52 + t ≡ y * 2 ^ 52 + (2 ^ 52 + t) = omega arith in
    rw (ne_eqb (suc y) 2047 n)
    (subst (λ (v : ℕ). HasValue (odd 53 s (2 ^ 52 + t) y 1074) s v (2 ^ 1074))
    (sym (value_at y (2 ^ 52 + t) (omega arith) (omega arith)) ∙ ap value (sym e))
    (odd_sign 53 s (2 ^ 52 + t) y 1074))

pub bits_value : (b : ℕ) → b % 2 ^ 63 < infinity → HasValue (of_bits binary64 b) (leb (2 ^ 63) b) (value (b % 2 ^ 63)) (2 ^ 1074)
bits_value b h =
    let s = leb (2 ^ 63) b in
    let y = b % 2 ^ 63 / 2 ^ 52 in
    let t = b % 2 ^ 52 in
    let i : y * 2 ^ 52 + t ≡ b % 2 ^ 63 = omega arith in
    rw (of_bits_is b)
    (subst (λ (v : ℕ). HasValue (of_fields binary64 s y t) s (value v) (2 ^ 1074)) i
    (fields_value s y t (omega arith) (omega arith)))

-- ---- a number's pattern: above 0 and below the infinity's
top_none : (s : Bool) (t : ℕ) → T (number (of_fields binary64 s 2047 t)) → ⊥
unfolding of_fields
top_none s t = go (eqb t 0)
  where
    go : (b : Bool) → T (number (cond b (inf s) nan)) → ⊥
    go true h = h
    go false h = h

zero_none : (s : Bool) → T (number (of_fields binary64 s 0 0)) → ⊥
unfolding of_fields odd
zero_none s h = h

pattern_of : (b : ℕ) → T (number (of_bits binary64 b)) → (0 < b % 2 ^ 63) × (b % 2 ^ 63 < infinity)
pattern_of b h =
    let s = leb (2 ^ 63) b in
    let y = b % 2 ^ 63 / 2 ^ 52 in
    let t = b % 2 ^ 52 in
    let f : T (number (of_fields binary64 s y t)) = subst (λ (x : Float). T (number x)) (of_bits_is b) h in (
      elim (lt_or_le 0 (b % 2 ^ 63)) [
        | inl p ↦ p
        | inr p ↦
            let c : y ≡ 0 = omega arith in
            let d : t ≡ 0 = omega arith in
            let g : T (number (of_fields binary64 s 0 t)) = subst (λ (z : ℕ). T (number (of_fields binary64 s z t))) c f in
            absurd (zero_none s (subst (λ (z : ℕ). T (number (of_fields binary64 s 0 z))) d g))
      ],
      elim (lt_or_le y 2047) [
        | inl l ↦ omega arith
        | inr l ↦ let c : y ≡ 2047 = omega arith in absurd
            (top_none s t (subst (λ (z : ℕ). T (number (of_fields binary64 s z t))) c f))
      ],
    )

pub pattern : (x : Float) → T (fits binary64 x) → T (number x)
    → (0 < to_bits binary64 x % 2 ^ 63) × (to_bits binary64 x % 2 ^ 63 < infinity)
pattern x f h = pattern_of (to_bits binary64 x) (subst (λ (z : Float). T (number z)) (sym (of_bits-to_bits binary64 x f)) h)

-- ---- back from the bits, three times
pub same_three : (a b c : Float) → T (fits binary64 a) → T (fits binary64 b) → T (fits binary64 c)
    → fused (of_bits binary64 (to_bits binary64 a)) (of_bits binary64 (to_bits binary64 b))
    (of_bits binary64 (to_bits binary64 c)) ≡ fused a b c
same_three a b c p q r = rw (of_bits-to_bits binary64 a p, of_bits-to_bits binary64 b q, of_bits-to_bits binary64 c r)

-- the test for a normal number
pub in_range : (b : ℕ) → (leb (2 ^ 52) b && ltb b infinity) ≡ true → (2 ^ 52 ≤ b) × (b < infinity)
in_range b e =
    let t : T (leb (2 ^ 52) b && ltb b infinity) = subst T (sym e) tt in
    (leb→le (2 ^ 52) b (and_l (leb (2 ^ 52) b) (ltb b infinity) t), ltb→lt b infinity (and_r (leb (2 ^ 52) b) (ltb b infinity) t))

-- (what `to_bits` asks)
pub no_nan : (x : Float) → T (number x) → T (not (is_nan x))
unfolding is_nan
no_nan nan h = absurd h
no_nan (inf s) h = tt
no_nan (fin s m e) h = tt
