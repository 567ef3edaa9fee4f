-- The parts of an f64 by its pattern: its digits over a power of two; and nothing but itself where it is small. Assumes nothing.
use Rattle.std.specs.Prelude.{◌≡◌, ℕ, ◌+◌, ◌-◌, ◌*◌, ◌/◌, ◌%◌, ◌^◌, ◌<◌, ◌≤◌, T, [], ◌∷◌, from_bits, to_bits, Float}
use Rattle.std.proofs.Math.Path.{refl}
use Rattle.std.proofs.Common.{sym, ap, ◌∙◌, subst, le_of_mul-le-mul_right, le_of_eq, le_of_lt, zero-mul, eq-zero-or-pos, mul-pos, one-mul, arith, eq-eqb, ne_eqb, pow_pos, pow-add}
use Rattle.std.proofs.Math.Logic.{inl, inr}
use Rattle.std.proofs.Math.Nat.{eq_of_mul-eq-mul_right}
use Rattle.std.specs.Float.{nan, inf, fin, binary64}
use Rattle.std.specs.Float.Ieee.{fits, neg}
use Rattle.std.specs.Float.Ieee.Bits.{of_bits-to_bits, to_bits-lt}
use Rattle.std.specs.Float.Ieee.Positive.{num, den, den_pos, value→cross, first_pos}
use Rattle.algebra.specs.Ring.{con, nxt, ◌:*◌, ◌≈◌, ◌⊩◌, ◌times◌≼◌}
use Rattle.algebra.proofs.Ring.{ring, below}
use Rattle.algebra.specs.Order.{lt_or_le}
use Rattle.rounding.specs.Cut.{value, infinity}
use Rattle.rounding.proofs.Value.{value_is, value_high, value_lt}
use Rattle.rounding.specs.Sign.{bits_neg}
use Rattle.parted.specs.Parts.{parts_of, tiny_of}
use Rattle.parted.specs.Fractions.{none, less, found, same_parts}

-- ---- the size is the pattern's without its sign
neg_num : (x : Float) → num (neg x) ≡ num x
unfolding neg
neg_num nan = refl
neg_num (inf s) = refl
neg_num (fin s m e) = refl

neg_den : (x : Float) → den (neg x) ≡ den x
unfolding neg
neg_den nan = refl
neg_den (inf s) = refl
neg_den (fin s m e) = refl

by_pattern : (b : ℕ) → b < 2 ^ 64 → b % 2 ^ 63 < infinity
    → num (from_bits binary64 b) * 2 ^ 1074 ≡ value (b % 2 ^ 63) * den (from_bits binary64 b)
by_pattern b h k = elim (lt_or_le b (2 ^ 63)) [
  | inl l ↦
      let e : b % 2 ^ 63 ≡ b = omega arith in
      rw e (value→cross (from_bits binary64 b) (value b) (2 ^ 1074) (value_is b (rw e at k)))
  | inr l ↦
      let n = b % 2 ^ 63 in
      let e : b ≡ n + 2 ^ 63 = omega arith in
      let f : from_bits binary64 b ≡ neg (from_bits binary64 n) = ap (λ (z : ℕ). from_bits binary64 z) e ∙ bits_neg n (omega arith) in
      let c = value→cross (from_bits binary64 n) (value n) (2 ^ 1074) (value_is n k) in
      ap (λ (z : ℕ). z * 2 ^ 1074) (ap num f ∙ neg_num (from_bits binary64 n)) ∙ c
      ∙ sym (ap (λ (z : ℕ). value n * z) (ap den f ∙ neg_den (from_bits binary64 n)))
]

module _ (x : Float) (fit : T (fits binary64 x)) (n : ℕ) (is : n ≡ to_bits binary64 x % 2 ^ 63) where
  pub size_is : n < infinity → num x * 2 ^ 1074 ≡ value n * den x
  size_is k =
      subst (λ (y : Float). num y * 2 ^ 1074 ≡ value n * den y) (of_bits-to_bits binary64 x fit)
      (rw is (by_pattern (to_bits binary64 x) (to_bits-lt binary64 x fit) (rw is at k)))

  -- ---- its digits over 2 ^ s
  same_ratio : (N d M U a b D : ℕ) → 0 < a → N * D ≡ M * a * d → a * b ≡ D → N * U * b ≡ M * U * d
  same_ratio N d M U a b D A e f =
      eq_of_mul-eq-mul_right a A (N * U * b) (M * U * d)
      (ring 7 (λ N d M U a b D. (N :* U times a :* b ≼ D) ∷ (U times N :* D ≼ M :* a :* d) ∷ []
      ⊩ N :* U :* b :* a ≈ M :* U :* d :* a) tt N d M U a b D f e)

  powers : (f : ℕ) → 1 ≤ f → f ≤ 1042 → 2 ^ (f - 1) * 2 ^ (1075 - f) ≡ 2 ^ 1074
  powers f l h = sym (pow-add 2 (f - 1) (1075 - f)) ∙ ap (λ (z : ℕ). 2 ^ z) (joined f l h)
    where
      joined : (f : ℕ) → 1 ≤ f → f ≤ 1042 → f - 1 + (1075 - f) ≡ 1074
      joined f l h = omega arith

  pub by_digits : (unit : ℕ) → 2 ^ 52 ≤ n → n < 1043 * 2 ^ 52
      → parts_of ((2 ^ 52 + n % 2 ^ 52) * unit) (2 ^ (1075 - n / 2 ^ 52)) ≡ parts_of (num x * unit) (den x)
  by_digits unit l h =
      let M = 2 ^ 52 + n % 2 ^ 52 in
      let f = n / 2 ^ 52 in
      let v : num x * 2 ^ 1074 ≡ M * 2 ^ (f - 1) * den x = size_is (omega arith) ∙ ap (λ (z : ℕ). z * den x) (value_high n l) in
      same_parts (num x * unit) (den x) (M * unit) (2 ^ (1075 - f)) (den_pos x) (pow_pos (1075 - f))
      (same_ratio (num x) (den x) M unit (2 ^ (f - 1)) (2 ^ (1075 - f)) (2 ^ 1074) (pow_pos (f - 1)) v
      (powers f (omega arith) (omega arith)))

  -- ---- below 2 ^ -41 it is less than half of any unit
  low : (N v d : ℕ) → N * 2 ^ 1074 ≤ v * d → v ≤ 2 ^ 1033 → N * 2 ^ 41 * 2 ^ 1033 ≤ d * 2 ^ 1033
  low = below 3 (λ N v d. (con 1 times N :* con (2 ^ 1074) ≼ v :* d) ∷ (d times v ≼ con (2 ^ 1033)) ∷ []
      ⊩ N :* con (2 ^ 41) :* con (2 ^ 1033) ≈ d :* con (2 ^ 1033)) tt

  under : (N U d : ℕ) → N * 2 ^ 41 ≤ d → U ≤ 1000000000000 → 1 ≤ N → N * U * 2 < d
  under = below 3 (λ N U d. (con 1 times N :* con (2 ^ 41) ≼ d) ∷ (N :* con 2 times U ≼ con 1000000000000)
      ∷ (con (2 ^ 41 - 2000000000000) times con 1 ≼ N) ∷ [] ⊩ nxt (N :* U :* con 2) ≈ d) tt

  border : value (982 * 2 ^ 52) ≡ 2 ^ 1033
  border = unfold value in refl

  zero_value : value 0 ≡ 0
  zero_value = unfold value in refl

  pub by_size : (unit : ℕ) → 1 ≤ unit → unit ≤ 1000000000000 → n < 982 * 2 ^ 52 → tiny_of n ≡ parts_of (num x * unit) (den x)
  unfolding tiny_of
  by_size unit l u h = elim (eq-zero-or-pos n) [
    | inl z ↦ rw (eq-eqb n 0 z) (sym (found (num x * unit) (den x) (den_pos x) 0 0 (none refl (nothing z))))
    | inr z ↦ rw (ne_eqb n 0 (λ e. omega arith))
        (sym (found (num x * unit) (den x) (den_pos x) 0 1 (less refl (some z) (little z))))
  ]
    where
      is_value : num x * 2 ^ 1074 ≡ value n * den x
      is_value = size_is (omega arith)

      -- a pattern above 0 is that of a number above 0, and 0 that of 0
      positive : 0 < n → 0 < num x
      positive z =
          let p : 0 < value n = subst (λ (k : ℕ). k < value n) zero_value (value_lt 0 n z) in
          first_pos (num x) (2 ^ 1074) (subst (λ (k : ℕ). 0 < k) (sym is_value) (mul-pos p (den_pos x)))

      zero_num : n ≡ 0 → num x ≡ 0
      zero_num z =
          eq_of_mul-eq-mul_right (2 ^ 1074) (pow_pos 1074) (num x) 0
          (is_value ∙ ap (λ (k : ℕ). k * den x) (ap value z ∙ zero_value) ∙ zero-mul (den x) ∙ sym (zero-mul (2 ^ 1074)))

      nothing : n ≡ 0 → 0 * 2 * den x ≡ num x * unit * 2
      nothing z = zero-mul (den x) ∙ rw (zero_num z, zero-mul)

      some : 0 < n → 0 * 2 * den x < num x * unit * 2
      some z = subst (λ (k : ℕ). k < num x * unit * 2) (sym (zero-mul (den x))) (mul-pos (mul-pos (positive z) l) (omega arith))

      little : 0 < n → num x * unit * 2 < (0 * 2 + 1) * den x
      little z =
          let v : value n ≤ 2 ^ 1033 = le_of_lt (subst (λ (k : ℕ). value n < k) border (value_lt n (982 * 2 ^ 52) h)) in
          let d : num x * 2 ^ 41 ≤ den x =
          le_of_mul-le-mul_right (low (num x) (value n) (den x) (le_of_eq is_value) v) (pow_pos 1033) in
          subst (λ (k : ℕ). num x * unit * 2 < k) (sym (one-mul (den x))) (under (num x) unit (den x) d u (positive z))
