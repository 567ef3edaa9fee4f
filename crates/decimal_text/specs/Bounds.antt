-- A decimal of up to 17 digits is laid out in words, and its text is short. Assumes nothing.
use Prim.Native.Nat.{ℕ, suc, ◌+◌, ◌-◌, ◌*◌, ◌/◌, ◌%◌, ◌^◌, ◌≤◌, ◌<◌}
use Rattle.std.specs.Prelude.{◌≡◌, Bool, ◌&&◌, cond, [], ◌∷◌, ◌++◌, eqb, length}
use Rattle.std.proofs.Math.Path.{refl, subst}
use Rattle.std.proofs.Common.{sym, ap, ◌∙◌, le_trans, le_of_eq, lt_of_lt_of_le, mod-eq_of_lt, div-lt_iff_lt-mul, mul-lt-mul_of_pos_right, leb-true, ltb-true, length-append, pow-add}
use Rattle.std.proofs.Math.Bool.{true, false}
use Rattle.std.proofs.Math.Logic.{inl, inr}
use Rattle.std.proofs.Math.Nat.{div-eq_of_lt, pow-le-pow_right, pow-succ'}
use native.Mathlib.Omega.{arith}
use Rattle.std.proofs.Math.Dec.{ltb, leb}
use Rattle.algebra.specs.Order.{lt_or_le}
use Rattle.digits.specs.Digits.{digits}
use Rattle.digits.proofs.DigitLaws.{digits_length}
use Rattle.writing.specs.Decimal.{places_of, decimal}
use Rattle.writing.specs.Places.{places_some, places_hold, places_few}
use Rattle.fives.specs.Powers.{five_of}
use Rattle.fives.specs.Laws.{five_is}
use Rattle.decimal.specs.Decimal.{ones}
use Rattle.decimal_short.proofs.Within.{ten_pos}
use Rattle.decimal_short.proofs.Largest.{ten_is}
use Rattle.decimal_text.specs.declared.shape.Shape.{Shape}
use Rattle.decimal_text.specs.Shape.{whole_shape, point_shape, power_shape, shape_of, places_text, power_text, shape_text}

tens : {j k : ℕ} → j ≤ k → 10 ^ j ≤ 10 ^ k
tens h = pow-le-pow_right {n = 10} (omega arith) h

-- ---- a power of ten in a word, by the power of five
pub ten_word : (k : ℕ) → k < 20 → five_of k * 2 ^ k % 2 ^ 64 ≡ 10 ^ k
ten_word k h =
    let l : k ≤ 19 = omega arith in
    let e : five_of k * 2 ^ k ≡ 10 ^ k = ap (λ (f : ℕ). f * 2 ^ k) (five_is k (omega arith)) ∙ sym (ten_is k) in
    ap (λ (n : ℕ). n % 2 ^ 64) e ∙ mod-eq_of_lt (small (10 ^ k) (tens l))
  where
    small : (n : ℕ) → n ≤ 10 ^ 19 → n < 2 ^ 64
    small n h = omega arith

-- ---- a power that does not go into d
module _ (d k : ℕ) (h : d < 10 ^ 17) (l : 17 ≤ k) where
  past : d < 10 ^ k
  past = lt_of_lt_of_le h (tens l)

  pub none_whole : d / 10 ^ k ≡ 0
  none_whole = div-eq_of_lt past

  pub all_part : d % 10 ^ k ≡ d
  all_part = mod-eq_of_lt past

module _ (d : ℕ) (h : d < 10 ^ 17) where
  -- ---- its digits
  pub digits_hold : d < 10 ^ places_of 19 d
  digits_hold = places_hold 19 d (lt_of_lt_of_le h (tens {j = 17} {k = 20} (omega arith)))

  pub digits_few : places_of 19 d ≤ 17
  digits_few = places_few 16 19 d h

  -- ---- a whole number of up to 17 digits
  pub whole_small : (t : ℕ) → places_of 19 d + t ≤ 1217 → d * 10 ^ (t - 1200) < 10 ^ 17
  whole_small t w =
      let n = places_of 19 d in
      let j = t - 1200 in
      let s : n + j ≤ 17 = omega (arith, digits_few) in
      lt_of_lt_of_le (mul-lt-mul_of_pos_right digits_hold (ten_pos j)) (le_trans (le_of_eq (sym (pow-add 10 n j))) (tens s))

  -- ---- a part of it
  part_few : (k : ℕ) → k < 17 → places_of 19 (d / 10 ^ k) + k ≤ 17
  part_few k l =
      let e : 17 ≡ suc (16 - k) + k = omega arith in
      let p : d < 10 ^ suc (16 - k) * 10 ^ k =
      lt_of_lt_of_le h (le_of_eq (ap (λ (i : ℕ). 10 ^ i) e ∙ pow-add 10 (suc (16 - k)) k)) in
      omega (arith, places_few (16 - k) 19 (d / 10 ^ k) ((div-lt_iff_lt-mul (ten_pos k)).1 p))

  first_digit : (k : ℕ) → places_of 19 d ≡ suc k → places_of 19 (d / 10 ^ k) ≤ 1
  first_digit k e =
      let p : d < 10 * 10 ^ k = lt_of_lt_of_le digits_hold (le_of_eq (ap (λ (i : ℕ). 10 ^ i) e ∙ pow-succ' 10 k)) in
      places_few 0 19 (d / 10 ^ k) ((div-lt_iff_lt-mul (ten_pos k)).1 p)

-- ---- how long the parts of a text are
pub places_length : (s : Shape) → length (places_text s) ≤ suc s.places
unfolding places_text
places_length s = go (eqb s.places 0)
  where
    go : (t : Bool) → length (cond t [] (46 ∷ digits 10 s.places s.part)) ≤ suc s.places
    go true = omega arith
    go false = le_of_eq (ap suc (digits_length 10 s.places s.part))

power_length : (s : Shape) → s.power < 1000 → length (power_text s) ≤ 5
unfolding power_text decimal
power_length s h = go (eqb s.power 0) s.below
  where
    few : length (digits 10 (places_of 9 s.power) s.power) ≤ 3
    few = rw digits_length (places_few 2 9 s.power h)

    go : (t b : Bool)
        → length (cond t [] (101 ∷ (cond b (45 ∷ []) [] ++ digits 10 (places_of 9 s.power) s.power))) ≤ 5
    go true b = omega arith
    go false true = omega (arith, few)
    go false false = omega (arith, few)

pub shape_parts : (s : Shape) → length (shape_text s) ≡ places_of 19 s.whole + (length (places_text s) + length (power_text s))
unfolding shape_text decimal
shape_parts s = rw (length-append, length-append, digits_length)

-- ---- and the text
module _ (d : ℕ) (h : d < 10 ^ 17) where
  whole_length : (t : ℕ) → places_of 19 d + t ≤ 1217 → length (shape_text (whole_shape d t)) ≤ 23
  unfolding whole_shape places_text power_text
  whole_length t w = omega (arith, shape_parts (whole_shape d t), places_few 16 19 (d * 10 ^ (t - 1200)) (whole_small d h t w))

  point_length : (k : ℕ) → k ≤ 21 → length (shape_text (point_shape d k)) ≤ 23
  unfolding point_shape power_text
  point_length k l = elim (lt_or_le k 17) [
    | inl i ↦ omega (arith, shape_parts (point_shape d k), places_length (point_shape d k), part_few d h k i)
    | inr i ↦
        let z : places_of 19 (d / 10 ^ k) ≤ 1 =
        subst (λ (n : ℕ). places_of 19 n ≤ 1) (sym (none_whole d k h i)) (places_few 0 19 0 (omega arith)) in
        omega (arith, shape_parts (point_shape d k), places_length (point_shape d k), z)
  ]

  power_text_length : (k t : ℕ) → places_of 19 d ≡ suc k → 860 ≤ t → t < 1509 → length (shape_text (power_shape d k t)) ≤ 23
  unfolding power_shape
  power_text_length k t e l u =
      let f = digits_few d h in
      omega (
        arith,
        shape_parts (power_shape d k t),
        places_length (power_shape d k t),
        power_length (power_shape d k t) (omega arith),
        first_digit d h k e,
      )

  -- THE LAW: 23 bytes are enough
  pub shape_length : (t : ℕ) → 860 ≤ t → t < 1509 → length (shape_text (shape_of d t)) ≤ 23
  unfolding shape_of
  shape_length t l u = go (leb ones t) (leb (n + t) 1217) (ltb t ones) (ltb 1195 (n + t)) refl refl refl
    where
      n : ℕ
      n = places_of 19 d

      power : length (shape_text (power_shape d (n - 1) t)) ≤ 23
      power = power_text_length (n - 1) t (omega (arith, places_some 19 d)) l u

      go : (a b c e : Bool) → leb (n + t) 1217 ≡ b → ltb t ones ≡ c → ltb 1195 (n + t) ≡ e
          → length (shape_text
          (cond (a && b) (whole_shape d t) (cond (c && e) (point_shape d (ones - t)) (power_shape d (n - 1) t)))) ≤ 23
      go true true c e B C E = whole_length t (leb-true (n + t) 1217 B)
      go true false true true B C E = point_length (ones - t) (omega (arith, ltb-true 1195 (n + t) E, digits_few d h))
      go true false true false B C E = power
      go true false false e B C E = power
      go false b true true B C E = point_length (ones - t) (omega (arith, ltb-true 1195 (n + t) E, digits_few d h))
      go false b true false B C E = power
      go false b false e B C E = power

  -- and no power has more than three digits
  pub power_small : (t : ℕ) → 860 ≤ t → t < 1509 → (shape_of d t).power < 1000
  unfolding shape_of whole_shape point_shape power_shape
  power_small t l u = go (leb ones t && leb (places_of 19 d + t) 1217) (ltb t ones && ltb 1195 (places_of 19 d + t))
    where
      go : (a b : Bool)
          → (cond a (whole_shape d t) (cond b (point_shape d (ones - t)) (power_shape d (places_of 19 d - 1) t))).power < 1000
      go true b = omega arith
      go false true = omega arith
      go false false = omega (arith, digits_few d h)
