-- What `rounded` answers: the pattern whose value is nearest to v, the even one of two that are equally near; and it is the only
-- one.
-- Assumes nothing.
use Prim.Native.Nat.{ℕ, zero, suc, ◌+◌, ◌*◌, ◌%◌, ◌^◌, ◌≤◌, ◌<◌, Ordering}
use Rattle.std.specs.Prelude.{◌≡◌, Bool, true, false, not, cond, ltb, eqb}
use Rattle.std.proofs.Math.Path.{refl, ap}
use Rattle.std.proofs.Common.{sym, subst, inl, inr, add_comm, le_antisymm, mul-lt-mul_of_pos_right, ltb→lt, lt→ltb, eqb→eq, T_not, pow_pos}
use Rattle.std.proofs.Math.Nat.{pow-succ'}
use native.Mathlib.Omega.{arith}
use Rattle.std.proofs.Math.Dec.{T, is_le, not_T}
use Rattle.std.specs.Float.Ieee.{binary64, of_bits}
use Rattle.std.specs.Float.Ieee.Fits.{and_i, and_l, and_r, eq→eqb}
use Rattle.algebra.specs.Order.{lt_or_le}
use Rattle.rounding.specs.Cut.{Cut, value, infinity, nearer, passed, reached, last, rounded}
use Rattle.rounding.proofs.Value.{value_lt}
use Rattle.rounding.specs.Laws.{Nearest, Number, found, middle}

-- ---- `last` finds a pattern that is reached while the next one is not
last_reached : (v : Cut) (k b : ℕ) → T (reached v b) → T (reached v (last v k b))
unfolding last
last_reached v zero b h = h
last_reached v (suc k) b h = last_reached v k (cond (reached v (b + 2 ^ k)) (b + 2 ^ k) b) (go (reached v (b + 2 ^ k)) refl)
  where
    go : (t : Bool) → reached v (b + 2 ^ k) ≡ t → T (reached v (cond t (b + 2 ^ k) b))
    go true e = subst T (sym e) tt
    go false e = h

last_next : (v : Cut) (k b : ℕ) → T (not (reached v (b + 2 ^ k))) → T (not (reached v (suc (last v k b))))
unfolding last
last_next v zero b h = let e : b + 2 ^ 0 ≡ suc b = omega arith in rw e at h
last_next v (suc k) b h = last_next v k (cond (reached v (b + 2 ^ k)) (b + 2 ^ k) b) (go (reached v (b + 2 ^ k)) refl)
  where
    go : (t : Bool) → reached v (b + 2 ^ k) ≡ t → T (not (reached v (cond t (b + 2 ^ k) b + 2 ^ k)))
    go true e = let f : b + 2 ^ suc k ≡ b + 2 ^ k + 2 ^ k = omega (arith, pow-succ' 2 k) in rw f at h
    go false e = subst (λ (z : Bool). T (not z)) (sym e) tt

pub found_reached : (v : Cut) → T (reached v (found v))
found_reached v = last_reached v 63 0 (unfold reached in tt)

pub found_next : (v : Cut) → T (not (reached v (suc (found v))))
found_next v = last_next v 63 0 (unfold reached in tt)

-- ---- what is reached, taken apart
pub reached_suc : (v : Cut) (b : ℕ) → T (reached v (suc b)) → (b < infinity) × T (passed v b)
unfolding reached
reached_suc v b t = (ltb→lt b infinity (and_l (ltb b infinity) (passed v b) t), and_r (ltb b infinity) (passed v b) t)

pub reach : (v : Cut) (b : ℕ) → b < infinity → T (passed v b) → T (reached v (suc b))
unfolding reached
reach v b h t = and_i (ltb b infinity) (passed v b) (lt→ltb b infinity h) t

pub unreached : (v : Cut) (b : ℕ) → T (not (passed v b)) → T (not (reached v (suc b)))
unreached v b t = not_T (reached v (suc b)) (λ r. T_not (passed v b) t (reached_suc v b r).1)

nearer_le : (o : Ordering) (b : ℕ) → T (nearer o b) → T (is_le o)
nearer_le Ordering.lt b t = tt
nearer_le Ordering.eq b t = tt
nearer_le Ordering.gt b t = t

pub lt_passed : (v : Cut) (b : ℕ) → v (middle b (suc b)) (2 ^ 1075) ≡ Ordering.lt → T (passed v b)
lt_passed v b e = subst (λ (o : Ordering). T (nearer o b)) (sym e) tt

pub gt_passed : (v : Cut) (b : ℕ) → v (middle b (suc b)) (2 ^ 1075) ≡ Ordering.gt → T (not (passed v b))
gt_passed v b e = subst (λ (o : Ordering). T (not (nearer o b))) (sym e) tt

module _ (v : Cut) (num : Number v) where
  -- a middle that is lower than one that is not above v is below v
  pub under : (m n : ℕ) → m < n → T (is_le (v n (2 ^ 1075))) → v m (2 ^ 1075) ≡ Ordering.lt
  under m n h t = num.below m (2 ^ 1075) n (2 ^ 1075) (pow_pos 1075) (pow_pos 1075) (mul-lt-mul_of_pos_right h (pow_pos 1075)) t

  before : (b : ℕ) → T (reached v (suc b)) → T (reached v b)
  before zero t = unfold reached in tt
  before (suc b) t =
      let r = reached_suc v (suc b) t in
      let h : b < infinity = omega (arith, r.0) in
      reach v b h (lt_passed v b
      (under (middle b (suc b)) (middle (suc b) (suc (suc b))) (omega (arith, value_lt b (suc (suc b)) (omega arith)))
      (nearer_le (v (middle (suc b) (suc (suc b))) (2 ^ 1075)) (suc b) r.1)))

  pub all_before : (j n : ℕ) → j ≤ n → T (reached v n) → T (reached v j)
  all_before j zero h t = let e : j ≡ zero = omega arith in subst (λ (z : ℕ). T (reached v z)) (sym e) t
  all_before j (suc n) h t = elim (lt_or_le j (suc n)) [
    | inl l ↦ all_before j n (omega arith) (before n t)
    | inr l ↦ let e : j ≡ suc n = omega arith in subst (λ (z : ℕ). T (reached v z)) (sym e) t
  ]

  pub not_lower : (m n : ℕ) → T (not (reached v (suc m))) → T (reached v n) → m < n → ⊥
  not_lower m n a b h = T_not (reached v (suc m)) a (all_before (suc m) n h b)

  -- THE LAW FOR PROOFS: the pattern that is reached while the next is not is the answer
  pub found_at : (n : ℕ) → T (reached v n) → T (not (reached v (suc n))) → found v ≡ n
  found_at n a b = elim (lt_or_le (found v) n) [
    | inl l ↦ absurd (not_lower (found v) n (found_next v) a l)
    | inr l ↦ elim (lt_or_le n (found v))
        [ inl g ↦ absurd (not_lower n (found v) b (found_reached v) g) | inr g ↦ le_antisymm g l ]
  ]

  pub rounded_at : (n : ℕ) → T (reached v n) → T (not (reached v (suc n))) → rounded v ≡ of_bits binary64 n
  unfolding rounded
  rounded_at n a b = ap (λ (z : ℕ). of_bits binary64 z) (found_at n a b)

  -- (where v is at no middle: between the middles beside a pattern that is not 0)
  pub rounded_between : (b : ℕ) → b < infinity → v (middle b (suc b)) (2 ^ 1075) ≡ Ordering.lt
      → v (middle (suc b) (suc (suc b))) (2 ^ 1075) ≡ Ordering.gt → rounded v ≡ of_bits binary64 (suc b)
  rounded_between b h p q = rounded_at (suc b) (reach v b h (lt_passed v b p)) (unreached v (suc b) (gt_passed v (suc b) q))

  -- ---- THE LAW FOR READERS: that pattern is nearest, and nothing else is
  lower_of_lem : (n : ℕ) → T (reached v n) → (j : ℕ) → j < n → T (is_le (v (middle j n) (2 ^ 1075)))
  lower_of_lem zero a j h = absurd (omega arith)
  lower_of_lem (suc b) a j h =
      let p = nearer_le (v (middle b (suc b)) (2 ^ 1075)) b (reached_suc v b a).1 in
      elim (lt_or_le j b) [
        | inl l ↦ subst (λ (o : Ordering). T (is_le o))
            (sym (under (middle j (suc b)) (middle b (suc b)) (omega (arith, value_lt j b l)) p)) tt
        | inr l ↦ let e : j ≡ b = omega arith in rw e p
      ]

  -- v is past the middle to the next pattern, if it is not below that to a later one
  past_next : (n j : ℕ) → suc n < j → T (is_le (v (middle n j) (2 ^ 1075))) → v (middle n (suc n)) (2 ^ 1075) ≡ Ordering.lt
  past_next n j h t = under (middle n (suc n)) (middle n j) (omega (arith, value_lt (suc n) j h)) t

  higher_of : (n : ℕ) → T (not (reached v (suc n))) → (j : ℕ) → n < j → j ≤ infinity → v (middle n j) (2 ^ 1075) ≡ Ordering.lt → ⊥
  higher_of n b j h u e =
      T_not (reached v (suc n)) b
      (reach v n (omega arith) (lt_passed v n (elim (lt_or_le (suc n) j) [
        | inl l ↦ past_next n j l (subst (λ (o : Ordering). T (is_le o)) (sym e) tt)
        | inr l ↦ let f : j ≡ suc n = omega arith in rw f at e
      ])))

  not_both : (o : Ordering) → o ≡ Ordering.lt → o ≡ Ordering.eq → ⊥
  not_both o p q = let z : ◌≡◌ {A = ℕ} 0 1 = cc in omega arith

  is_le_lem : (o : Ordering) → o ≡ Ordering.eq → T (is_le o)
  is_le_lem o e = subst (λ (p : Ordering). T (is_le p)) (sym e) tt

  at_tie : (b : ℕ) → v (middle b (suc b)) (2 ^ 1075) ≡ Ordering.eq → passed v b ≡ eqb (b % 2) 1
  at_tie b e = ap (λ (o : Ordering). nearer o b) e

  even_lower : (n : ℕ) → T (reached v n) → (j : ℕ) → j < n → v (middle j n) (2 ^ 1075) ≡ Ordering.eq → n % 2 ≡ 0
  even_lower zero a j h e = absurd (omega arith)
  even_lower (suc b) a j h e =
      let r = (reached_suc v b a).1 in
      elim (lt_or_le j b) [
        | inl l ↦ absurd (not_both (v (middle j (suc b)) (2 ^ 1075))
            (under (middle j (suc b)) (middle b (suc b)) (omega (arith, value_lt j b l))
            (nearer_le (v (middle b (suc b)) (2 ^ 1075)) b r)) e)
        | inr l ↦
            let f : j ≡ b = omega arith in
            let o : b % 2 ≡ 1 = eqb→eq (b % 2) 1 (subst T (at_tie b (rw f at e)) r) in
            omega arith
      ]

  even_higher : (n : ℕ) → T (not (reached v (suc n))) → (j : ℕ) → n < j → j ≤ infinity → v (middle n j) (2 ^ 1075) ≡ Ordering.eq
      → n % 2 ≡ 0
  even_higher n b j h u e =
      let no : T (passed v n) → ⊥ = λ p. T_not (reached v (suc n)) b (reach v n (omega arith) p) in
      elim (lt_or_le (suc n) j) [
        | inl l ↦ absurd (no (lt_passed v n (past_next n j l (is_le_lem (v (middle n j) (2 ^ 1075)) e))))
        | inr l ↦
            let f : j ≡ suc n = omega arith in
            let o : n % 2 ≡ 1 → ⊥ = λ q. no (subst T (sym (at_tie n (rw f at e))) (eq→eqb q)) in
            elim (lt_or_le (n % 2) 1) [ inl k ↦ omega arith | inr k ↦ absurd (o (omega arith)) ]
      ]

  at_most : (n : ℕ) → T (reached v n) → n ≤ infinity
  at_most zero a = omega arith
  at_most (suc b) a = (reached_suc v b a).0

  nearest_of : (n : ℕ) → T (reached v n) → T (not (reached v (suc n))) → Nearest v n
  nearest_of n a b = record {
    held = at_most n a;
    lower = lower_of_lem n a;
    higher = higher_of n b;
    even = λ j u d e.
        elim (lt_or_le j n) [
          | inl l ↦ even_lower n a j l e
          | inr l ↦ elim (lt_or_le n j)
              [ inl g ↦ even_higher n b j g u (rw add_comm at e) | inr g ↦ absurd (d (le_antisymm g l)) ]
        ];
  }

  pub rounded_nearest : (n : ℕ) × (rounded v ≡ of_bits binary64 n) × Nearest v n
  rounded_nearest = (
    found v,
    rounded_at (found v) (found_reached v) (found_next v),
    nearest_of (found v) (found_reached v)
        (found_next v),
  )

  nearest_reached : (n : ℕ) → Nearest v n → T (reached v n)
  nearest_reached zero r = unfold reached in tt
  nearest_reached (suc b) r = reach v b r.held (go (v (middle b (suc b)) (2 ^ 1075)) (r.lower b (omega arith))
      (r.even b (omega (arith, r.held)) (λ e. omega arith)))
    where
      go : (o : Ordering) → T (is_le o) → (o ≡ Ordering.eq → suc b % 2 ≡ 0) → T (nearer o b)
      go Ordering.lt t q = tt
      go Ordering.eq t q = let z = q refl in let o : b % 2 ≡ 1 = omega arith in eq→eqb o
      go Ordering.gt t q = t

  nearest_last : (n : ℕ) → Nearest v n → T (not (reached v (suc n)))
  nearest_last n r = not_T (reached v (suc n)) (λ a. let p = reached_suc v n a in
      go (v (middle n (suc n)) (2 ^ 1075)) p.1 (r.higher (suc n) (omega arith) p.0)
      (λ e. r.even (suc n) p.0 (λ q. omega arith) (rw add_comm at e)))
    where
      go : (o : Ordering) → T (nearer o n) → (o ≡ Ordering.lt → ⊥) → (o ≡ Ordering.eq → n % 2 ≡ 0) → ⊥
      go Ordering.lt t h e = h refl
      go Ordering.eq t h e = let z = e refl in let o = eqb→eq (n % 2) 1 t in omega arith
      go Ordering.gt t h e = t

  pub nearest_rounded : (n : ℕ) → Nearest v n → rounded v ≡ of_bits binary64 n
  nearest_rounded n r = rounded_at n (nearest_reached n r) (nearest_last n r)
