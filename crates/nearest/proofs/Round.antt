-- The rounding of a word v with a sticky bit, which stands for X / Y, is `round` of X / Y. The number is X / Y * 2 ^ e units of 2
-- ^ -2296.
-- Normal and subnormal results differ only in how many digits are kept; overflow is past the last pattern. Assumes nothing.
use Prim.Native.Nat.{ℕ, ◌+◌, ◌-◌, ◌*◌, ◌/◌, ◌%◌, ◌^◌, ◌≤◌, ◌<◌, compare, Ordering}
use mathlib.Core.Path.{◌≡◌, refl, sym, ap, ◌∙◌, subst}
use mathlib.Core.Bool.{Bool, false, cond}
use mathlib.Core.Logic.{◌⊎◌, inl, inr}
use mathlib.Core.List.{[], ◌∷◌}
use native.Mathlib.Nat.{zero-add, mul-pos, mul-one, mod-lt, mul-lt-mul_of_pos_right}
use native.Mathlib.Omega.{arith}
use lib.Pow.{pow_pos, pow-add, split}
use lib.Ieee.{Float, inf, binary64, nearest, round, neg, of_bits}
use Rattle.algebra.specs.Ring.{con, ◌:+◌, ◌:*◌, ◌≈◌, ◌⊩◌, ◌times◌≼◌}
use Rattle.algebra.proofs.Ring.{ring}
use Rattle.algebra.specs.Order.{Compared, compared, scaled_compare}
use Rattle.rounding.specs.Cut.{infinity}
use Rattle.rounding.proofs.Value.{infinity_is}
use Rattle.rounding.proofs.Fraction.{pick, beyond, rounded_fraction}
use Rattle.rounding.specs.Jam.{Jam, Digits, jam_digits}
use Rattle.nearest.proofs.Even.{near_half, quotient_small}
use Rattle.nearest.specs.Signed.{round_sign}

-- ---- the scale taken through: K is the weight of the last digit kept, S = 2 ^ e, Z = 2 ^ k
whole_is : (X Y q T K S Z : ℕ) → q * (Y * K) + T ≡ X → 2 ^ 1222 * Z ≡ K * S
    → q * (Y * 2 ^ 2296 * Z) + T * S * 2 ^ 1074 ≡ X * S * 2 ^ 1074
whole_is =
    ring 7
    (λ X Y q T K S Z.
    (S :* con (2 ^ 1074) times q :* (Y :* K) :+ T ≼ X) ∷ (q :* Y :* con (2 ^ 1074) times con (2 ^ 1222) :* Z ≼ K :* S) ∷ []
    ⊩ q :* (Y :* con (2 ^ 2296) :* Z) :+ T :* S :* con (2 ^ 1074) ≈ X :* S :* con (2 ^ 1074))
    tt

scale_is : (Y K S Z : ℕ) → 2 ^ 1222 * Z ≡ K * S → Y * 2 ^ 2296 * Z ≡ Y * K * (S * 2 ^ 1074)
scale_is =
    ring 4
    (λ Y K S Z.
    (Y :* con (2 ^ 1074) times con (2 ^ 1222) :* Z ≼ K :* S) ∷ [] ⊩ Y :* con (2 ^ 2296) :* Z ≈ Y :* K :* (S :* con (2 ^ 1074)))
    tt

around : (T S : ℕ) → T * S * 2 ^ 1074 * 2 ≡ T * 2 * (S * 2 ^ 1074)
around = ring 2 (λ T S. T :* S :* con (2 ^ 1074) :* con 2 ≈ T :* con 2 :* (S :* con (2 ^ 1074))) tt

beside : (T S : ℕ) → T * S * 2 ^ 1074 ≡ T * (S * 2 ^ 1074)
beside = ring 2 (λ T S. T :* S :* con (2 ^ 1074) ≈ T :* (S :* con (2 ^ 1074))) tt

-- ---- q digits kept of v, with k above 1 in the exponent's field
module _ (X Y v q r e k J : ℕ) (p : 0 < Y) (j : Jam X Y v) (d : q * (4 * J) + r ≡ v) (l : r < 4 * J)
    (s : 2 ^ 1222 * 2 ^ k ≡ 4 * J * 2 ^ e)
    (b : (k ≡ 0) ⊎ (2 ^ 52 ≤ q)) (u : q < 2 ^ 53) where
  D : Digits X Y q r (4 * J)
  D = jam_digits X Y v q r J p j d l

  abbrev num : ℕ
  num = X * 2 ^ e

  abbrev den : ℕ
  den = Y * 2 ^ 2296

  abbrev rest : ℕ
  rest = D.rest * 2 ^ e * 2 ^ 1074

  unit : 0 < 2 ^ e * 2 ^ 1074
  unit = mul-pos (pow_pos e) (pow_pos 1074)

  den_pos : 0 < den
  den_pos = mul-pos p (pow_pos 2296)

  E : q * (den * 2 ^ k) + rest ≡ num * 2 ^ 1074
  E = whole_is X Y q D.rest (4 * J) (2 ^ e) (2 ^ k) D.whole s

  L : rest < den * 2 ^ k
  L = rw (scale_is Y (4 * J) (2 ^ e) (2 ^ k) s, beside D.rest (2 ^ e)) (mul-lt-mul_of_pos_right D.small unit)

  H : compare (rest * 2) (den * 2 ^ k) ≡ compare (r * 2) (4 * J)
  H =
      rw (scale_is Y (4 * J) (2 ^ e) (2 ^ k) s, around D.rest (2 ^ e))
      (scaled_compare (D.rest * 2) (Y * (4 * J)) (2 ^ e * 2 ^ 1074) unit ∙ D.half)

  pub round_digits : k * 2 ^ 52 + q < infinity
      → of_bits binary64 (k * 2 ^ 52 + nearest q (compare (r * 2) (4 * J))) ≡ round binary64 false num den
  round_digits h =
      let o = compare (r * 2) (4 * J) in
      let c : Compared o (rest * 2) (den * 2 ^ k) =
      subst (λ (o : Ordering). Compared o (rest * 2) (den * 2 ^ k)) H (compared (rest * 2) (den * 2 ^ k)) in
      sym (pick num den k q rest den_pos b u E L o c h) ∙ rounded_fraction num den den_pos

  pub round_over : infinity ≤ k * 2 ^ 52 + q → inf false ≡ round binary64 false num den
  round_over h = sym (beyond num den k q rest den_pos b u E L h) ∙ rounded_fraction num den den_pos

-- ---- a word of 64 digits
cut_power : (Z : ℕ) → 2 ^ 1222 * Z ≡ 2048 * (Z * 2 ^ 1211)
cut_power = ring 1 (λ Z. con (2 ^ 1222) :* Z ≈ con 2048 :* (Z :* con (2 ^ 1211))) tt

module _ (s : Bool) (X Y v e : ℕ) (p : 0 < Y) (j : Jam X Y v) (lo : 2 ^ 63 ≤ v) (hi : v < 2 ^ 64) where
  -- the pattern n with the sign s
  abbrev Signed : ℕ → Float → Type 0
  Signed n r = r ≡ cond s (neg (of_bits binary64 n)) (of_bits binary64 n)

  abbrev Answer : Float → Type 0
  Answer r = r ≡ round binary64 s (X * 2 ^ e) (Y * 2 ^ 2296)

  answer : (n : ℕ) (r : Float) → of_bits binary64 n ≡ round binary64 false (X * 2 ^ e) (Y * 2 ^ 2296) → Signed n r → Answer r
  answer n r f g = round_sign s (X * 2 ^ e) (Y * 2 ^ 2296) (of_bits binary64 n) r f g

  low_scale : e < 1211 → 2 ^ 1222 * 2 ^ 0 ≡ 2 ^ (1222 - e) * 2 ^ e
  low_scale h =
      let i : 1222 - e + e ≡ 1222 = omega arith in
      mul-one (2 ^ 1222) ∙ ap (λ (z : ℕ). 2 ^ z) (sym i) ∙ pow-add 2 (1222 - e) e

  low_four : e < 1211 → 4 * 2 ^ (1220 - e) ≡ 2 ^ (1222 - e)
  low_four h = let i : 2 + (1220 - e) ≡ 1222 - e = omega arith in sym (pow-add 2 2 (1220 - e)) ∙ ap (λ (z : ℕ). 2 ^ z) i

  pub word_low : (n : ℕ) (r : Float) → e < 1211
      → n ≡ nearest (v / 2 ^ (1222 - e)) (compare (v % 2 ^ (1222 - e) * 2) (2 ^ (1222 - e))) → Signed n r → Answer r
  word_low n r h g =
      let k = 1222 - e in
      let q = v / 2 ^ k in
      let t = v % 2 ^ k in
      let J = 2 ^ (1220 - e) in
      let u : q < 2 ^ 52 = quotient_small v k hi (omega arith) in
      let go : q * (4 * J) + t ≡ v → t < 4 * J → 2 ^ 1222 * 2 ^ 0 ≡ 4 * J * 2 ^ e
      → of_bits binary64 (nearest q (compare (t * 2) (4 * J))) ≡ round binary64 false (X * 2 ^ e) (Y * 2 ^ 2296) =
      λ d l m.
      ap (λ (z : ℕ). of_bits binary64 z) (sym (zero-add (nearest q (compare (t * 2) (4 * J)))))
      ∙ round_digits X Y v q t e 0 J p j d l m (inl refl) (omega arith) (omega arith) in
      answer n r
      (rw g
      (subst
      (λ (K : ℕ). q * K + t ≡ v → t < K → 2 ^ 1222 * 2 ^ 0 ≡ K * 2 ^ e
      → of_bits binary64 (nearest q (compare (t * 2) K)) ≡ round binary64 false (X * 2 ^ e) (Y * 2 ^ 2296))
      (low_four h) go (split v k) (mod-lt v (pow_pos k)) (low_scale h)))

  module _ (h : 1211 ≤ e) where
    high_scale : 2 ^ 1222 * 2 ^ (e - 1211) ≡ 4 * 512 * 2 ^ e
    high_scale =
        let i : e - 1211 + 1211 ≡ e = omega arith in
        cut_power (2 ^ (e - 1211)) ∙ ap (λ (z : ℕ). 2048 * z) (sym (pow-add 2 (e - 1211) 1211) ∙ ap (λ (z : ℕ). 2 ^ z) i)

    pub word_high : (n : ℕ) (r : Float) → e - 1211 < 2046 → n ≡ nearest (v / 2048) (compare (v % 2048) 1024)
        → Signed ((e - 1211) * 2 ^ 52 + n) r → Answer r
    word_high n r b g =
        answer ((e - 1211) * 2 ^ 52 + n) r
        (rw (g, near_half (v / 2048) (v % 2048) 11 (omega arith))
        (round_digits X Y v (v / 2048) (v % 2048) e (e - 1211) 512 p j (omega arith) (omega arith) high_scale (inr (omega arith))
        (omega arith)
        (omega arith)))

    pub word_over : (r : Float) → 2046 ≤ e - 1211 → Signed infinity r → Answer r
    word_over r b =
        answer infinity r
        (infinity_is
        ∙ round_over X Y v (v / 2048) (v % 2048) e (e - 1211) 512 p j (omega arith) (omega arith) high_scale (inr (omega arith))
        (omega arith)
        (omega arith))
