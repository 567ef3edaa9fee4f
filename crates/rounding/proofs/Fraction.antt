-- At a fraction p / q, `rounded` is the library's `round`, by which every operator on f64 is defined: one notion of rounding
-- serves both.
-- Assumes nothing.
use Prim.Native.Nat.{ℕ, zero, suc, ◌+◌, ◌-◌, ◌*◌, ◌/◌, ◌%◌, ◌^◌, ◌≤◌, ◌<◌, compare, Ordering}
use Rattle.std.specs.Prelude.{◌≡◌, refl, true, false, not, ◌⊎◌, [], ◌∷◌, T, eqb, Float}
use Rattle.std.proofs.Common.{sym, ap, ◌∙◌, true≢false, le_of_eq, le_of_lt, le_trans, le_antisymm, mul-le-mul_right, lt_of_mul-lt-mul_right, mul-div_cancel, mul-pos, mod-lt, div-add-mod', le-div_iff_mul-le, eq-zero-or-pos, zero-add, mul-one, le-ltb, leb→le, pow_pos, pow-add}
use Rattle.std.proofs.Math.Path.{subst}
use Rattle.std.proofs.Math.Logic.{inl, inr}
use Rattle.std.proofs.Math.Nat.{div-div-eq-div-mul}
use native.Mathlib.Omega.{arith}
use Rattle.std.specs.Float.{nan, inf, fin, binary64}
use Rattle.std.specs.Float.Ieee.{up, down, size, nearest, units, round, fits, to_bits, of_bits}
use Rattle.std.specs.Float.Ieee.Digits.{size_reaches}
use Rattle.std.specs.Float.Ieee.Nearest.{nearest-ge}
use Rattle.std.specs.Float.Ieee.Fits.{down_pos, nearest-le, kept-lt, round_is, round-fits, eq→eqb}
use Rattle.std.specs.Float.Ieee.Bits.{of_bits-to_bits, of_bits-fits}
use Rattle.std.specs.Float.Ieee.Exact.{HasValue, units_val}
use Rattle.algebra.specs.Ring.{con, nxt, ◌:+◌, ◌:*◌, ◌≈◌, ◌⊩◌, ◌times◌≼◌}
use Rattle.algebra.proofs.Ring.{ring, below}
use Rattle.rounding.specs.Cut.{Cut, infinity, value, nearer, passed, reached, rounded}
use Rattle.algebra.specs.Order.{lt_or_le, Compared, compared, lt_compare, eq_compare, gt_compare}
use Rattle.rounding.proofs.Value.{value_at, value_small, value_up, value_lt, value_is, infinity_is}
use Rattle.rounding.specs.Laws.{Number, middle}
use Rattle.rounding.proofs.Laws.{reach, unreached, lt_passed, gt_passed, rounded_at}
use Rattle.rounding.specs.Fraction.{fraction}

order : (a b c d p q : ℕ) → a * d < c * b → c * q ≤ p * d → 0 < q → a * q * d < p * b * d
order = below 6 (λ a b c d p q. (q times nxt (a :* d) ≼ c :* b) ∷ (b times c :* q ≼ p :* d) ∷ (con 1 times con 1 ≼ q) ∷ []
    ⊩ nxt (a :* q :* d) ≈ p :* b :* d) tt

pub fraction_number : (p q : ℕ) → 0 < q → Number (fraction p q)
fraction_number p q Q = record {
  below = λ a b c d B D h t. lt_compare (a * q) (p * b)
      (lt_of_mul-lt-mul_right d (order a b c d p q h (leb→le (c * q) (p * d) t) Q));
}

-- ---- two f64s of one value are one: the pattern is computed from the value
bits_of : (x : Float) (v : ℕ) → HasValue x false v (2 ^ 1074) → to_bits binary64 x ≡ (size v - 53) * 2 ^ 52 + v / 2 ^ (size v - 53)
unfolding to_bits
bits_of nan v h = absurd h
bits_of (inf s) v h = absurd h
bits_of (fin true m e) v h = absurd (true≢false h.0)
bits_of (fin false m e) v h =
    let d : m * up e * 2 ^ 1074 / down e ≡ v = ap (λ (z : ℕ). z / down e) h.1 ∙ mul-div_cancel v (down_pos e) in
    ap (λ (n : ℕ). 0 + (size n - 53) * 2 ^ 52 + n / 2 ^ (size n - 53)) d
    ∙ ap (λ (z : ℕ). z + v / 2 ^ (size v - 53)) (zero-add ((size v - 53) * 2 ^ 52))

pub one_float : (x y : Float) (v : ℕ) → T (fits binary64 x) → T (fits binary64 y) → HasValue x false v (2 ^ 1074)
    → HasValue y false v (2 ^ 1074)
    → x ≡ y
one_float x y v f g h k = sym (of_bits-to_bits binary64 x f)
    ∙ ap (λ (b : ℕ). of_bits binary64 b) (bits_of x v h ∙ sym (bits_of y v k))
    ∙ of_bits-to_bits binary64 y g

-- ---- p / q is w * Y units and t / q more, with Y = 2 ^ k and t below q * Y
under : (A w Y t p q : ℕ) → A < 2 * (w * Y) → w * (q * Y) + t ≤ p * 2 ^ 1074 → 0 < q → A * q < p * 2 ^ 1075
under = below 6 (λ A w Y t p q. (q times nxt A ≼ con 2 :* (w :* Y)) ∷ (con 2 times w :* (q :* Y) :+ t ≼ p :* con (2 ^ 1074))
    ∷ (con 1 times con 1 ≼ q) ∷ [] ⊩ nxt (A :* q) ≈ p :* con (2 ^ 1075)) tt

over : (A w Y t p q : ℕ) → 2 * ((w + 1) * Y) < A → p * 2 ^ 1074 ≤ w * (q * Y) + t → t < q * Y → p * 2 ^ 1075 < A * q
over = below 6 (λ A w Y t p q.
    (q times nxt (con 2 :* ((w :+ con 1) :* Y)) ≼ A) ∷ (con 2 times p :* con (2 ^ 1074) ≼ w :* (q :* Y) :+ t)
    ∷ (con 2 times nxt t ≼ q :* Y) ∷ [] ⊩ nxt (p :* con (2 ^ 1075)) ≈ A :* q) tt

mid_gt : (w Y t p q : ℕ) → p * 2 ^ 1074 ≤ w * (q * Y) + t → t * 2 < q * Y → p * 2 ^ 1075 < (w * Y + (w + 1) * Y) * q
mid_gt = below 5 (λ w Y t p q.
    (con 2 times p :* con (2 ^ 1074) ≼ w :* (q :* Y) :+ t) ∷ (con 1 times nxt (t :* con 2) ≼ q :* Y) ∷ []
    ⊩ nxt (p :* con (2 ^ 1075)) ≈ (w :* Y :+ (w :+ con 1) :* Y) :* q) tt

mid_lt : (w Y t p q : ℕ) → w * (q * Y) + t ≤ p * 2 ^ 1074 → q * Y < t * 2 → (w * Y + (w + 1) * Y) * q < p * 2 ^ 1075
mid_lt = below 5 (λ w Y t p q.
    (con 2 times w :* (q :* Y) :+ t ≼ p :* con (2 ^ 1074)) ∷ (con 1 times nxt (q :* Y) ≼ t :* con 2) ∷ []
    ⊩ nxt ((w :* Y :+ (w :+ con 1) :* Y) :* q) ≈ p :* con (2 ^ 1075)) tt

mid_eq : (w Y t p q : ℕ) → w * (q * Y) + t ≡ p * 2 ^ 1074 → q * Y ≡ t * 2 → (w * Y + (w + 1) * Y) * q ≡ p * 2 ^ 1075
mid_eq = ring 5 (λ w Y t p q. (con 2 times w :* (q :* Y) :+ t ≼ p :* con (2 ^ 1074)) ∷ (con 1 times q :* Y ≼ t :* con 2) ∷ []
    ⊩ (w :* Y :+ (w :+ con 1) :* Y) :* q ≈ p :* con (2 ^ 1075)) tt

-- ---- from 2 ^ 1024 on, which the infinity counts as, `units` is the infinity
value_infinity : value infinity ≡ 2 ^ 2098
unfolding value
value_infinity = refl

units_over : (r k : ℕ) → 2 ^ 2098 ≤ r * 2 ^ k → units binary64 false r k ≡ inf false
unfolding units
units_over r k h = rw (le-ltb (r * 2 ^ k) (2 ^ 2098) h)

value_le : (j n : ℕ) → j ≤ n → value j ≤ value n
value_le j n h = elim (lt_or_le j n)
    [ inl l ↦ le_of_lt (value_lt j n l) | inr l ↦ let e : j ≡ n = le_antisymm h l in le_of_eq (ap value e) ]

-- ---- the patterns P, of w * Y units, and suc P, of one Y more: `rounded` picks one of the two, by how 2 * t compares with q * Y
module _ (p q k w t : ℕ) (Q : 0 < q) (K : (k ≡ 0) ⊎ (2 ^ 52 ≤ w)) (W : w < 2 ^ 53) (E : w * (q * 2 ^ k) + t ≡ p * 2 ^ 1074)
    (L : t < q * 2 ^ k) where
  abbrev v : Cut
  v = fraction p q

  abbrev P : ℕ
  P = k * 2 ^ 52 + w

  value_in : (n j : ℕ) → n ≡ k * 2 ^ 52 + j → w ≤ j → j ≤ 2 ^ 53 → value n ≡ j * 2 ^ k
  value_in n j e h u = ap value e ∙ elim K [
    | inl z ↦ let f : k * 2 ^ 52 + j ≡ j = omega arith in ap value f ∙ value_small j u ∙ sym (mul-one j)
        ∙ ap (λ (x : ℕ). j * 2 ^ x) (sym z)
    | inr l ↦ value_at k j (omega arith) u
  ]

  value_P : value P ≡ w * 2 ^ k
  value_P = value_in P w refl (omega arith) (omega arith)

  value_next : value (suc P) ≡ (w + 1) * 2 ^ k
  value_next = value_in (suc P) (w + 1) (omega arith) (omega arith) (omega arith)

  is_under : (A : ℕ) → A < 2 * value P → v A (2 ^ 1075) ≡ Ordering.lt
  is_under A h = lt_compare (A * q) (p * 2 ^ 1075) (under A w (2 ^ k) t p q (rw value_P at h) (le_of_eq E) Q)

  is_over : (A : ℕ) → 2 * value (suc P) < A → v A (2 ^ 1075) ≡ Ordering.gt
  is_over A h = gt_compare (A * q) (p * 2 ^ 1075) (over A w (2 ^ k) t p q (rw value_next at h) (le_of_eq (sym E)) L)

  -- P is reached, as far as patterns go, and so is every pattern before it
  reached_to : (n : ℕ) → n ≤ P → n ≤ infinity → T (reached v n)
  reached_to zero h u = unfold reached in tt
  reached_to (suc b) h u = reach v b u (lt_passed v b (is_under (middle b (suc b)) (elim (lt_or_le (suc b) P) [
    | inl l ↦ omega (arith, value_up b, value_lt (suc b) P l)
    | inr l ↦ let e : suc b ≡ P = omega arith in subst (λ (z : ℕ). middle b (suc b) < 2 * value z) e (omega (arith, value_up b))
  ])))

  -- and the one after suc P is not
  not_after : T (not (reached v (suc (suc P))))
  not_after = unreached v (suc P) (gt_passed v (suc P) (is_over (middle (suc P) (suc (suc P))) (omega (arith, value_up (suc P)))))

  num : Number v
  num = fraction_number p q Q

  here : T (not (passed v P)) → P ≤ infinity → rounded v ≡ of_bits binary64 P
  here h u = rounded_at v num P (reached_to P (omega arith) u) (unreached v P h)

  next : T (passed v P) → P < infinity → rounded v ≡ of_bits binary64 (suc P)
  next h u = rounded_at v num (suc P) (reach v P u h) not_after

  parity : P % 2 ≡ w % 2
  parity = omega arith

  pub pick : (o : Ordering) → Compared o (t * 2) (q * 2 ^ k) → P < infinity
      → rounded v ≡ of_bits binary64 (k * 2 ^ 52 + nearest w o)
  pick Ordering.lt c u =
      here (gt_passed v P (gt_compare (middle P (suc P) * q) (p * 2 ^ 1075)
      (rw (value_P, value_next) (mid_gt w (2 ^ k) t p q (le_of_eq (sym E)) c)))) (omega arith)
  pick Ordering.gt c u =
      let f : suc P ≡ k * 2 ^ 52 + suc w = omega arith in
      next (lt_passed v P (lt_compare (middle P (suc P) * q) (p * 2 ^ 1075)
      (rw (value_P, value_next) (mid_lt w (2 ^ k) t p q (le_of_eq E) c)))) u ∙ ap (λ (z : ℕ). of_bits binary64 z) f
  pick Ordering.eq c u =
      let m : v (middle P (suc P)) (2 ^ 1075) ≡ Ordering.eq = eq_compare (middle P (suc P) * q) (p * 2 ^ 1075)
      (rw (value_P, value_next) (mid_eq w (2 ^ k) t p q E (sym c))) in
      elim (lt_or_le (w % 2) 1) [
        | inl l ↦
            let z : P % 2 ≡ 0 = omega (arith, parity) in
            let f : P ≡ k * 2 ^ 52 + (w + w % 2) = omega arith in
            here (subst (λ (o : Ordering). T (not (nearer o P))) (sym m) (subst (λ (r : ℕ). T (not (eqb r 1))) (sym z) tt))
            (omega arith)
            ∙ ap (λ (z : ℕ). of_bits binary64 z) f
        | inr l ↦
            let z : P % 2 ≡ 1 = omega (arith, parity) in
            let f : suc P ≡ k * 2 ^ 52 + (w + w % 2) = omega arith in
            next (subst (λ (o : Ordering). T (nearer o P)) (sym m) (eq→eqb z)) u ∙ ap (λ (z : ℕ). of_bits binary64 z) f
      ]

  -- past the infinity's pattern
  pub beyond : infinity ≤ P → rounded v ≡ inf false
  beyond h = rounded_at v num infinity (reached_to infinity h (omega arith)) (unfold reached in tt) ∙ infinity_is

  -- ---- `units`, by which `round` writes its result, has the same pattern
  overflow : (r : ℕ) → w ≤ r → infinity ≤ P → units binary64 false r k ≡ inf false
  overflow r h u = units_over r k (subst (λ (z : ℕ). z ≤ r * 2 ^ k) value_infinity
      (le_trans (value_le infinity P u) (le_trans (le_of_eq value_P) (mul-le-mul_right (2 ^ k) h))))

  same : (r : ℕ) → w ≤ r → r ≤ suc w → P < infinity → T (fits binary64 (units binary64 false r k))
      → of_bits binary64 (k * 2 ^ 52 + r) ≡ units binary64 false r k
  same r a b u f =
      let n = k * 2 ^ 52 + r in
      let e : value n ≡ r * 2 ^ k = value_in n r refl a (omega arith) in
      elim (lt_or_le n infinity) [
        | inl l ↦
            one_float (of_bits binary64 n) (units binary64 false r k) (r * 2 ^ k) (of_bits-fits binary64 n) f
            (rw e at (value_is n l))
            (units_val binary64 false r k (subst (λ (z : ℕ). r * 2 ^ k < z) value_infinity
            (subst (λ (z : ℕ). z < value infinity) e (value_lt n infinity l))))
        | inr l ↦
            let i : n ≡ infinity = omega arith in
            ap (λ (z : ℕ). of_bits binary64 z) i ∙ infinity_is
            ∙ sym (units_over r k (le_of_eq (sym value_infinity ∙ ap value (sym i) ∙ e)))
      ]

-- THE LAW
pub rounded_fraction : (p q : ℕ) → 0 < q → rounded (fraction p q) ≡ round binary64 false p q
rounded_fraction p q Q =
    let N = p * 2 ^ 1074 in
    let k = size (N / q) - 53 in
    let u = q * 2 ^ k in
    let w = N / u in
    let o = compare (N % u * 2) u in
    let d : N / q / 2 ^ k ≡ w = div-div-eq-div-mul N q (2 ^ k) in
    let K : (k ≡ 0) ⊎ (2 ^ 52 ≤ w) = elim (eq-zero-or-pos k) [
      | inl z ↦ inl z
      | inr h ↦ inr (subst (λ (z : ℕ). 2 ^ 52 ≤ z) d ((le-div_iff_mul-le (pow_pos k)).1
          (le_trans (le_of_eq (sym (pow-add 2 52 k))) (size_reaches (N / q) (52 + k) (room (size (N / q)) h)))))
    ] in
    let W : w < 2 ^ 53 = subst (λ (z : ℕ). z < 2 ^ 53) d (kept-lt 53 (N / q)) in
    let E : w * u + N % u ≡ p * 2 ^ 1074 = div-add-mod' N u in
    let L : N % u < u = mod-lt N (mul-pos Q (pow_pos k)) in
    let is : round binary64 false p q ≡ units binary64 false (nearest w o) k = round_is binary64 false p q in
    elim (lt_or_le (k * 2 ^ 52 + w) infinity) [
      | inl l ↦
          pick p q k w (N % u) Q K W E L o (compared (N % u * 2) u) l
          ∙ same p q k w (N % u) Q K W E L (nearest w o) (nearest-ge w o) (nearest-le w o) l
          (subst (λ (z : Float). T (fits binary64 z)) is (round-fits binary64 false p q))
          ∙ sym is
      | inr l ↦ beyond p q k w (N % u) Q K W E L l
          ∙ sym (is ∙ overflow p q k w (N % u) Q K W E L (nearest w o) (nearest-ge w o) l)
    ]
  where
    room : (z : ℕ) → 0 < z - 53 → 52 + (z - 53) < z
    room z h = omega arith
