-- What rounding once does to numbers in order and in proportion, told in units of 2 ^ -1074: it keeps the order, leaves an f64 as
-- it is, and a power of two goes through it in the normal range. The root and the power -3/2, which are roundings of cuts, have
-- their laws from here.
use Prim.Native.Nat.{ℕ, zero, suc, ◌+◌, ◌-◌, ◌*◌, ◌/◌, ◌%◌, ◌^◌, ◌≤◌, ◌<◌, compare, Ordering}
use Rattle.std.specs.Prelude.{◌≡◌, refl, false, not, eqb}
use Rattle.std.proofs.Common.{sym, ap₂, ◌∙◌, le_trans, le_of_eq, le_of_lt, lt_of_lt_of_le, lt_of_le_of_lt, lt_irrefl, mul_assoc, add-mul, le→leb, pow-add, pow_mono}
use Rattle.std.proofs.Math.Path.{ap, subst}
use Rattle.std.proofs.Math.Logic.{inl, inr}
use native.Mathlib.Omega.{arith}
use Rattle.std.proofs.Math.Dec.{T, is_le, T_not, not_T}
use Rattle.std.specs.Float.{binary64}
use Rattle.std.specs.Float.Ieee.{of_bits}
use Rattle.std.specs.Float.Ieee.Bits.{of_bits-fits}
use Rattle.algebra.specs.Order.{lt_or_le, Compared, compared, lt_compare}
use Rattle.rounding.specs.Cut.{Cut, value, infinity, nearer, passed, reached, rounded}
use Rattle.rounding.proofs.Value.{value_high, value_at, value_up, value_lt, value_is}
use Rattle.rounding.specs.Laws.{Number, middle, found}
use Rattle.rounding.proofs.Laws.{found_reached, found_next, found_at, not_lower, all_before, under, reach}
use Rattle.rounding.proofs.Laws.{reached_suc, unreached, lt_passed}
use Rattle.scaling.specs.Units.{Is}

-- v rounded once, in units
unfoldable pub units_of : Cut → ℕ
units_of v = value (found v)

-- the f64 of a pattern has the pattern's units, and so v rounded has `units_of`
pub pattern_is : (a : ℕ) → a < infinity → Is binary64 (of_bits binary64 a) false (value a)
pattern_is a h = record { fit = of_bits-fits binary64 a; val = value_is a h }

pub rounded_is : (v : Cut) → found v < infinity → Is binary64 (rounded v) false (units_of v)
unfolding rounded units_of
rounded_is v h = pattern_is (found v) h

pub value_le : (j n : ℕ) → j ≤ n → value j ≤ value n
value_le j n h =
    elim (lt_or_le j n) [
      | inl l ↦ le_of_lt (value_lt j n l)
      | inr l ↦ (let e : j ≡ n = omega arith in le_of_eq (ap value e))
    ]

pub value_below : (j n : ℕ) → value j < value n → j < n
value_below j n h = elim (lt_or_le j n) [ inl l ↦ l | inr l ↦ absurd (lt_irrefl (value j) (lt_of_lt_of_le h (value_le n j l))) ]

-- t more in the exponent's field
pub value_shift : (t b : ℕ) → 2 ^ 52 ≤ b → value (b + t * 2 ^ 52) ≡ value b * 2 ^ t
value_shift t b h =
    let n = b + t * 2 ^ 52 in
    let i : 2 ^ 52 ≤ n = omega arith in
    let r : n % 2 ^ 52 ≡ b % 2 ^ 52 = omega arith in
    let q : n / 2 ^ 52 - 1 ≡ b / 2 ^ 52 - 1 + t = omega arith in
    value_high n i
    ∙ ap₂ (λ (x y : ℕ). (2 ^ 52 + x) * 2 ^ y) r q
    ∙ ap (λ (z : ℕ). (2 ^ 52 + b % 2 ^ 52) * z) (pow-add 2 (b / 2 ^ 52 - 1) t)
    ∙ sym (mul_assoc (2 ^ 52 + b % 2 ^ 52) (2 ^ (b / 2 ^ 52 - 1)) (2 ^ t))
    ∙ ap (λ (z : ℕ). z * 2 ^ t) (sym (value_high b h))

-- the pattern of 2 ^ (52 + i) units
pub value_power : (i : ℕ) → value (i * 2 ^ 52 + 2 ^ 52) ≡ 2 ^ (52 + i)
value_power i = value_at i (2 ^ 52) (omega arith) (omega arith) ∙ sym (pow-add 2 52 i)

-- ---- the order
-- what compares as o with a number compares so, or as below, with a larger one
abbrev pub Weaker : Ordering → Ordering → Type 0
Weaker Ordering.lt p = p ≡ Ordering.lt
Weaker Ordering.eq p = T (is_le p)
Weaker Ordering.gt p = Unit {0}

pub compare_weaker : (x y x' y' : ℕ) → x' ≤ x → y ≤ y' → Weaker (compare x y) (compare x' y')
compare_weaker x y x' y' h k = go (compare x y) (compared x y)
  where
    go : (o : Ordering) → Compared o x y → Weaker o (compare x' y')
    go Ordering.lt c = lt_compare x' y' (lt_of_le_of_lt h (lt_of_lt_of_le c k))
    go Ordering.eq c = le→leb x' y' (le_trans h (le_trans (le_of_eq c) k))
    go Ordering.gt c = tt

nearer_mono : (o p : Ordering) (b : ℕ) → Weaker o p → T (nearer o b) → T (nearer p b)
nearer_mono Ordering.lt p b h t = subst (λ q. T (nearer q b)) (sym h) tt
nearer_mono Ordering.eq Ordering.lt b h t = tt
nearer_mono Ordering.eq Ordering.eq b h t = t
nearer_mono Ordering.eq Ordering.gt b h t = absurd h
nearer_mono Ordering.gt p b h t = absurd t

module _ (v w : Cut) (num : Number w) (h : (a : ℕ) → Weaker (v a (2 ^ 1075)) (w a (2 ^ 1075))) where
  reached_mono : (n : ℕ) → T (reached v n) → T (reached w n)
  reached_mono zero t = unfold reached in tt
  reached_mono (suc b) t =
      let r = reached_suc v b t in
      let m = middle b (suc b) in
      reach w b r.0 (nearer_mono (v m (2 ^ 1075)) (w m (2 ^ 1075)) b (h m) r.1)

  pub units_mono : units_of v ≤ units_of w
  unfolding units_of
  units_mono =
      elim (lt_or_le (found w) (found v)) [
        | inl l ↦ absurd (not_lower w num (found w) (found v) (found_next w) (reached_mono (found v) (found_reached v)) l)
        | inr l ↦ value_le (found v) (found w) l
      ]

-- ---- v is the f64 of the pattern b
module _ (v : Cut) (num : Number v) (b : ℕ) (fit : b < infinity) (at : v (2 * value b) (2 ^ 1075) ≡ Ordering.eq) where
  at_le : T (is_le (v (2 * value b) (2 ^ 1075)))
  at_le = subst (λ o. T (is_le o)) (sym at) tt

  here : (n : ℕ) → n ≡ b → T (reached v n)
  here zero e = unfold reached in tt
  here (suc c) e =
      let l : value c < value b = subst (λ z. value c < value z) e (value_up c) in
      let m : middle c (suc c) < 2 * value b = subst (λ z. value c + value z < 2 * value b) (sym e) (omega arith) in
      reach v c (let r : c < infinity = omega arith in r) (lt_passed v c (under v num (middle c (suc c)) (2 * value b) m at_le))

  no_more : (o : Ordering) → (T (is_le o) → ⊥) → T (not (nearer o b))
  no_more Ordering.lt f = absurd (f tt)
  no_more Ordering.eq f = absurd (f tt)
  no_more Ordering.gt f = tt

  never : (o : Ordering) → o ≡ Ordering.eq → o ≡ Ordering.lt → ⊥
  never o p q = let z : ◌≡◌ {A = ℕ} 0 1 = cc in omega arith

  pub units_exact : units_of v ≡ value b
  unfolding units_of
  units_exact =
      let l = value_up b in
      let m : 2 * value b < middle b (suc b) = omega arith in
      ap value
      (found_at v num b (here b refl)
      (unreached v b (no_more (v (middle b (suc b)) (2 ^ 1075))
      (λ t. never (v (2 * value b) (2 ^ 1075)) at (under v num (2 * value b) (middle b (suc b)) m t)))))

-- ---- v' is v times 2 ^ t, and v is normal
nearer_parity : (o : Ordering) (b c : ℕ) → b % 2 ≡ c % 2 → nearer o b ≡ nearer o c
nearer_parity Ordering.lt b c e = refl
nearer_parity Ordering.eq b c e = ap (λ (z : ℕ). eqb z 1) e
nearer_parity Ordering.gt b c e = refl

pub value_infinity : value infinity ≡ 2 ^ 2098
unfolding value
value_infinity = refl

first_normal : value (2 ^ 52) ≡ 2 ^ 52
unfolding value
first_normal = refl

module _ (v v' : Cut) (num : Number v) (num' : Number v') (t : ℕ)
    (shift : (a : ℕ) → v' (a * 2 ^ t) (2 ^ 1075) ≡ v a (2 ^ 1075)) (big : T (is_le (v (2 ^ 53) (2 ^ 1075)))) where
  passed_shift : (b : ℕ) → 2 ^ 52 ≤ b → passed v' (b + t * 2 ^ 52) ≡ passed v b
  passed_shift b h =
      let c = b + t * 2 ^ 52 in
      let e : suc c ≡ suc b + t * 2 ^ 52 = omega arith in
      let p : c % 2 ≡ b % 2 = omega arith in
      let m : middle c (suc c) ≡ middle b (suc b) * 2 ^ t =
      ap₂ ◌+◌ (value_shift t b h) (ap value e ∙ value_shift t (suc b) (omega arith))
      ∙ sym (add-mul (value b) (value (suc b)) (2 ^ t)) in
      ap (λ z. nearer (v' z (2 ^ 1075)) c) m
      ∙ ap (λ o. nearer o c) (shift (middle b (suc b)))
      ∙ nearer_parity (v (middle b (suc b)) (2 ^ 1075)) c b p

  normal : 2 ^ 52 ≤ found v
  normal =
      elim (lt_or_le (found v) (2 ^ 52)) [
        | inl l ↦ absurd (not_lower v num (found v) (2 ^ 52) (found_next v) first l)
        | inr l ↦ l
      ]
    where
      first : T (reached v (2 ^ 52))
      first =
          let c = 2 ^ 52 - 1 in
          let l = value_up c in
          let m : middle c (2 ^ 52) < 2 ^ 53 = omega (arith, first_normal) in
          reach v c (omega arith) (lt_passed v c (under v num (middle c (2 ^ 52)) (2 ^ 53) m big))

  -- v' is 2 ^ 52 * 2 ^ t units or more
  big' : T (is_le (v' (2 ^ 53 * 2 ^ t) (2 ^ 1075)))
  big' = subst (λ o. T (is_le o)) (sym (shift (2 ^ 53))) big

  -- a pattern that v reaches, and its like that v' does
  reached_shift : (c : ℕ) → 2 ^ 52 ≤ c → c + t * 2 ^ 52 ≤ infinity → T (reached v c) → T (reached v' (c + t * 2 ^ 52))
  reached_shift zero h u r = absurd (let q : ⊥ = omega arith in q)
  reached_shift (suc b) h u r =
      let c = b + t * 2 ^ 52 in
      let i : c < infinity = omega arith in
      let e : suc c ≡ suc b + t * 2 ^ 52 = omega arith in
      subst (λ z. T (reached v' z)) e
      (reach v' c i
      (elim (lt_or_le b (2 ^ 52)) [
        | inl l ↦
            let f : suc b ≡ 2 ^ 52 = omega arith in
            let w : value (suc c) ≡ 2 ^ 52 * 2 ^ t =
            ap value (e ∙ ap (λ z. z + t * 2 ^ 52) f) ∙ value_shift t (2 ^ 52) (omega arith) ∙ ap (λ z. z * 2 ^ t) first_normal in
            let g = value_up c in
            let m : middle c (suc c) < 2 ^ 53 * 2 ^ t = omega (arith, w, g) in
            lt_passed v' c (under v' num' (middle c (suc c)) (2 ^ 53 * 2 ^ t) m big')
        | inr l ↦ subst T (sym (passed_shift b l)) (reached_suc v b r).1
      ]))

  top : infinity < found v + t * 2 ^ 52 → T (reached v' infinity)
  top h =
      elim (lt_or_le 2046 t) [
        | inl l ↦
            let c = infinity - 1 in
            let g = value_up c in
            let m : middle c infinity < 2 ^ 53 * 2 ^ t =
            lt_of_lt_of_le (twice (value c) (value infinity) g)
            (le_trans (le_of_eq (ap (λ z. 2 * z) value_infinity)) (le_trans (wide l) (le_of_eq (pow-add 2 53 t)))) in
            reach v' c (omega arith) (lt_passed v' c (under v' num' (middle c infinity) (2 ^ 53 * 2 ^ t) m big'))
        | inr l ↦
            let c = infinity - t * 2 ^ 52 in
            let e : c + t * 2 ^ 52 ≡ infinity = omega arith in
            subst (λ z. T (reached v' z)) e
            (reached_shift c (omega arith) (omega arith) (all_before v num c (found v) (omega arith) (found_reached v)))
      ]
    where
      twice : (a b : ℕ) → a < b → a + b < 2 * b
      twice a b h = omega arith

      wide : 2046 < t → 2 * 2 ^ 2098 ≤ 2 ^ (53 + t)
      wide l = pow_mono (let r : 2099 ≤ 53 + t = omega arith in r)

  pub units_scale : found v' < infinity → units_of v' ≡ units_of v * 2 ^ t
  unfolding units_of
  units_scale fit =
      let n = found v in
      let fits : n + t * 2 ^ 52 ≤ infinity =
      elim (lt_or_le infinity (n + t * 2 ^ 52))
      [ inl l ↦ absurd (not_lower v' num' (found v') infinity (found_next v') (top l) fit) | inr l ↦ l ] in
      let last : T (not (reached v' (suc (n + t * 2 ^ 52)))) =
      not_T (reached v' (suc (n + t * 2 ^ 52)))
      (λ r.
      let p = reached_suc v' (n + t * 2 ^ 52) r in
      let i : n < infinity = omega (arith, p.0) in
      T_not (reached v (suc n)) (found_next v) (reach v n i (subst T (passed_shift n normal) p.1))) in
      ap value (found_at v' num' (n + t * 2 ^ 52) (reached_shift n normal fits (found_reached v)) last) ∙ value_shift t n normal
