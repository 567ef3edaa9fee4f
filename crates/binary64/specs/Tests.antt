-- What a test in the code tells of an f64, and what it tells of a bit pattern. Assumes nothing.
-- A literal in code is `of_bits binary64 N`, so these speak of `zero` in that form.
use Rattle.std.specs.Prelude.{ℕ, zero, suc, ◌+◌, ◌*◌, ◌/◌, ◌%◌, ◌^◌, ◌≤◌, ◌<◌, ◌≡◌, Bool, not, ◌&&◌, ◌||◌, cond, ℤ, T, eqb, ltb, Float}
use Rattle.std.proofs.Math.Path.{refl}
use Rattle.std.proofs.Common.{sym, ap, ◌∙◌, subst, true≢false, inl, inr, zero-lt-suc, zero-mul, mul-pos, arith, lt-ltb, le-ltb, le-leb, ne_eqb, nltb→le}
use Rattle.std.proofs.Math.Bool.{true, false}
use Rattle.std.specs.Bool.{beq}
use Rattle.std.proofs.lemmas.Bool.{lt-leb}
use Rattle.std.specs.Float.{nan, inf, fin, binary64}
use Rattle.std.specs.Float.Ieee.{up, down, odd, fits, is_nan, lt, eq, ne, neg, of_fields, of_bits, nan_bits, to_bits}
use Rattle.std.specs.Float.Ieee.Fits.{up_pos}
use Rattle.std.specs.Float.Ieee.Scale.{finite}
use Rattle.std.specs.Float.Ieee.Bits.{of_bits-to_bits, to_bits-lt, nan_bits_above, nan_bits_is}
use Rattle.std.specs.Float.Ieee.Compare.{differs_from_itself, nan_differs}
use Rattle.algebra.specs.Order.{lt_or_le}
use Rattle.rounding.specs.Cut.{infinity}
use Rattle.rounding.proofs.Value.{infinity_is}

-- +0, as a literal in code is
abbrev pub zero_above : Float
zero_above = of_bits binary64 0

-- finite, and not a zero
abbrev pub number : Float → Bool
number nan = false
number (inf s) = false
number (fin s zero e) = false
number (fin s (suc m) e) = true

-- ---- x != x
pub differs_nan : (x : Float) → ne x x ≡ true → x ≡ nan
differs_nan x h = differs_from_itself x (subst T (sym h) tt)

pub is_nan_lem : (x : Float) → ne x x ≡ true → is_nan x ≡ true
unfolding is_nan
is_nan_lem x h = ap is_nan (differs_nan x h)

pub same_no_nan : (x : Float) → ne x x ≡ false → is_nan x ≡ false
unfolding is_nan
same_no_nan nan h = absurd (true≢false (sym nan_differs ∙ h))
same_no_nan (inf s) h = refl
same_no_nan (fin s m e) h = refl

pub ne_itself : (x : Float) → ne x x ≡ is_nan x
unfolding is_nan
ne_itself x = go (ne x x) refl
  where
    go : (t : Bool) → ne x x ≡ t → t ≡ is_nan x
    go true h = sym (is_nan_lem x h)
    go false h = sym (same_no_nan x h)

-- what `to_bits` asks
pub not_nan : (x : Float) → is_nan x ≡ false → T (not (is_nan x))
not_nan x h = subst (λ (t : Bool). T (not t)) (sym h) tt

-- ---- x > 0.0
pub above_no_nan : (x : Float) → lt zero_above x ≡ true → T (not (is_nan x))
unfolding lt is_nan of_bits
above_no_nan nan h = true≢false (sym h)
above_no_nan (inf s) h = tt
above_no_nan (fin s m e) h = tt

not_itself : lt zero_above zero_above ≡ false
unfolding lt of_bits
not_itself = refl

pub bits_pos : (x : Float) → T (fits binary64 x) → lt zero_above x ≡ true → 0 < to_bits binary64 x
bits_pos x f h = elim (lt_or_le 0 (to_bits binary64 x)) [
  | inl l ↦ l
  | inr l ↦
      let z : to_bits binary64 x ≡ 0 = omega arith in
      let e : zero_above ≡ x = ap (λ (b : ℕ). of_bits binary64 b) (sym z) ∙ of_bits-to_bits binary64 x f in
      absurd (true≢false (sym h ∙ ap (λ (y : Float). lt zero_above y) (sym e) ∙ not_itself))
]

-- above zero, with a pattern that is no number's: the infinity
odd_negative : (d q k l : ℕ) → lt zero_above (odd d true q k l) ≡ false
unfolding lt odd of_bits
odd_negative d zero k l = refl
odd_negative d (suc q) k l = refl

fields_negative : (y t : ℕ) → lt zero_above (of_fields binary64 true y t) ≡ false
unfolding of_fields of_bits
fields_negative zero t = odd_negative 53 t 0 1074
fields_negative (suc y) t = go (eqb (suc y) 2047) (eqb t 0)
  where
    go : (a b : Bool) → lt zero_above (cond a (cond b (inf true) nan) (odd 53 true (2 ^ 52 + t) y 1074)) ≡ false
    go true true = unfold lt in refl
    go true false = unfold lt in refl
    go false b = odd_negative 53 (2 ^ 52 + t) y 1074

fields_top : (t : ℕ) → lt zero_above (of_fields binary64 false 2047 t) ≡ true → of_fields binary64 false 2047 t ≡ inf false
unfolding of_fields of_bits
fields_top t = go (eqb t 0)
  where
    go : (b : Bool) → lt zero_above (cond b (inf false) nan) ≡ true → cond b (inf false) nan ≡ inf false
    go true h = refl
    go false h = absurd (true≢false (sym h ∙ (unfold lt in refl)))

top_is_infinity : (b : ℕ) → infinity ≤ b → b < 2 ^ 64 → lt zero_above (of_bits binary64 b) ≡ true → of_bits binary64 b ≡ inf false
unfolding of_bits
top_is_infinity b l u h = elim (lt_or_le b (2 ^ 63)) [
  | inl g ↦
      let y : b % 2 ^ 63 / 2 ^ 52 ≡ 2047 = omega arith in
      let e : of_bits binary64 b ≡ of_fields binary64 false 2047 (b % 2 ^ 52) = rw (lt-leb (2 ^ 63) b g, y) in
      e ∙ fields_top (b % 2 ^ 52) (ap (λ (x : Float). lt zero_above x) (sym e) ∙ h)
  | inr g ↦
      let e : of_bits binary64 b ≡ of_fields binary64 true (b % 2 ^ 63 / 2 ^ 52) (b % 2 ^ 52) = rw (le-leb (2 ^ 63) b g) in
      absurd (true≢false (sym h ∙ ap (λ (x : Float). lt zero_above x) e ∙ fields_negative (b % 2 ^ 63 / 2 ^ 52) (b % 2 ^ 52)))
]

pub above_all : (x : Float) → T (fits binary64 x) → infinity ≤ to_bits binary64 x → lt zero_above x ≡ true → x ≡ inf false
above_all x f l h =
    let e : of_bits binary64 (to_bits binary64 x) ≡ x = of_bits-to_bits binary64 x f in
    sym e ∙ top_is_infinity (to_bits binary64 x) l (to_bits-lt binary64 x f) (ap (λ (z : Float). lt zero_above z) e ∙ h)

-- ---- x == 0.0, for a finite x, which lt and eq see by whole numbers
zero_not : (m : ℕ) (e : ℤ) (s : Bool)
    → (eqb (suc m * up e * 1) (0 * 1 * down e) && (beq s false || eqb (suc m * up e * 1) 0)) ≡ true → ⊥
zero_not m e s h =
    true≢false (sym h ∙ not_level (suc m * up e * 1) (0 * 1 * down e)
    (mul-pos (mul-pos (zero-lt-suc m) (up_pos e)) (zero-lt-suc 0))
    (zero-mul (down e)))
  where
    not_level : (a b : ℕ) → 0 < a → b ≡ 0 → (eqb a b && (beq s false || eqb a 0)) ≡ false
    not_level a b h e = rw (ne_eqb a b (λ z. omega arith))

level_zero : (s : Bool) (a b : ℕ) → a ≡ 0 → b ≡ 0 → (eqb a b && (beq s false || eqb a 0)) ≡ true
level_zero true a b p q = rw (p, q)
level_zero false a b p q = rw (p, q)

-- a zero of either sign, and nothing else
pub data Zero : Float → Type 0 where
  a_zero : (s : Bool) (e : ℤ) → Zero (fin s 0 e)

pub is_zero : (x : Float) → eq x zero_above ≡ true → Zero x
unfolding eq of_bits
is_zero nan h = absurd (true≢false (sym h))
is_zero (inf s) h = absurd (true≢false (sym h))
is_zero (fin s zero e) h = a_zero s e
is_zero (fin s (suc m) e) h = absurd (zero_not m e s h)

pub zero_is : (s : Bool) (e : ℤ) → eq (fin s 0 e) zero_above ≡ true
unfolding eq of_bits
zero_is s e = level_zero s (0 * up e * 1) (0 * 1 * down e) (ap (λ (z : ℕ). z * 1) (zero-mul (up e))) (zero-mul (down e))

pub is_number : (x : Float) → finite x ≡ true → eq x zero_above ≡ false → T (number x)
is_number nan h k = true≢false (sym h)
is_number (inf s) h k = true≢false (sym h)
is_number (fin s zero e) h k = true≢false (sym (zero_is s e) ∙ k)
is_number (fin s (suc m) e) h k = tt

-- ---- a number above zero passes x > 0.0
pub number_above : (m : ℕ) (e : ℤ) → lt zero_above (fin false (suc m) e) ≡ true
unfolding lt of_bits
number_above m e =
    let z : 0 * 1 * down e ≡ 0 = zero-mul (down e) in
    let p : 0 < suc m * up e * 1 = mul-pos (mul-pos (zero-lt-suc m) (up_pos e)) (zero-lt-suc 0) in
    lt-ltb (0 * 1 * down e) (suc m * up e * 1) (omega arith)

-- ---- bit patterns: up to the infinity's, below the sign, there is no NaN, and past it there is nothing else
pub bits_number : (b : ℕ) → b % 2 ^ 63 ≤ infinity → T (not (nan_bits binary64 b))
bits_number b h =
    let f : nan_bits binary64 b ≡ false = nan_bits_above binary64 b ∙ le-ltb infinity (b % 2 ^ 63) h in
    subst (λ (t : Bool). T (not t)) (sym f) tt

-- and the pattern of an f64 that is no NaN is such a one
pub number_bits : (x : Float) → T (fits binary64 x) → is_nan x ≡ false → to_bits binary64 x % 2 ^ 63 ≤ infinity
number_bits x f h =
    let b = to_bits binary64 x in
    let e : ltb infinity (b % 2 ^ 63) ≡ false = sym (nan_bits_above binary64 b) ∙ nan_bits_is binary64 b
    ∙ ap is_nan (of_bits-to_bits binary64 x f) ∙ h in
    nltb→le infinity (b % 2 ^ 63) (subst (λ (t : Bool). T (not t)) (sym e) tt)

nan_only : (x : Float) → is_nan x ≡ true → x ≡ nan
unfolding is_nan
nan_only nan h = refl
nan_only (inf s) h = absurd (true≢false (sym h))
nan_only (fin s m e) h = absurd (true≢false (sym h))

pub bits_nan : (b : ℕ) → infinity < b % 2 ^ 63 → of_bits binary64 b ≡ nan
bits_nan b h = nan_only (of_bits binary64 b)
    (sym (nan_bits_is binary64 b) ∙ nan_bits_above binary64 b ∙ lt-ltb infinity (b % 2 ^ 63) h)

-- ---- x < infinity, -infinity < x
pub lower_side : (x : Float) → lt x (of_bits binary64 infinity) ≡ true → lt (neg (of_bits binary64 infinity)) x ≡ finite x
lower_side x = rw infinity_is (go x)
  where
    go : (x : Float) → lt x (inf false) ≡ true → lt (neg (inf false)) x ≡ finite x
    go nan h = absurd (true≢false (sym h ∙ (unfold lt in refl)))
    go (inf true) h = unfold lt neg in refl
    go (inf false) h = absurd (true≢false (sym h ∙ (unfold lt in refl)))
    go (fin s m e) h = unfold lt neg in refl

pub upper_side : (x : Float) → lt x (of_bits binary64 infinity) ≡ false → false ≡ finite x
upper_side x = rw infinity_is (go x)
  where
    go : (x : Float) → lt x (inf false) ≡ false → false ≡ finite x
    go nan h = refl
    go (inf s) h = refl
    go (fin s m e) h = let z : lt (fin s m e) (inf false) ≡ true = unfold lt in refl in absurd (true≢false (sym z ∙ h))
