-- A sum of two floats is the same in either order, where it does not overflow.
use Rattle.std.specs.Prelude.{◌≡◌, refl, ℕ, ◌+◌, ◌-◌, ◌≤◌, ◌<◌, Bool, true, false, not, ◌&&◌, cond, T, ltb, Float}
use Rattle.std.proofs.Common.{sym, ap, ◌∙◌, subst, subst₂, inl, inr, arith, lt-ltb, le-ltb}
use Rattle.std.specs.Float.{Format}
use Rattle.std.specs.Float.Ieee.{add}
use Rattle.std.specs.Float.Ieee.Scale.{overflow}
use Rattle.algebra.specs.Order.{lt_or_le}
use Rattle.scaling.specs.Near.{near}
use Rattle.scaling.specs.Cross.{add_n, add_s}
use Rattle.scaling.specs.Units.{Is, unique, add_units}
use Rattle.scaling.specs.Kind.{Kind, floor, level?, nudge_k, nudge_ok}
use Rattle.scaling.proofs.Kind.{and₃}
use Rattle.scaling.proofs.Within.{nudge_in}
use Rattle.scaling.specs.Two.{Two}
use Rattle.scaling.proofs.Two.{nudge_two, summed, under}

-- ---- of opposite signs, by which is the larger
unlike_sizes : (m n : ℕ) → cond (ltb m n) (n - m) (m - n) ≡ cond (ltb n m) (m - n) (n - m)
unlike_sizes m n =
    elim (lt_or_le m n) [
      | inl l ↦ rw (lt-ltb m n l, le-ltb n m (let r : m ≤ n = omega arith in r))
      | inr l ↦
          elim (lt_or_le n m) [
            | inl k ↦ rw (le-ltb m n l, lt-ltb n m k)
            | inr k ↦ rw (le-ltb m n l, le-ltb n m k) (omega arith)
          ]
    ]

unlike_signs : (s t : Bool) (m n : ℕ) → cond (ltb m n) t (s && ltb n m) ≡ cond (ltb n m) s (t && ltb m n)
unlike_signs s t m n =
    elim (lt_or_le m n) [
      | inl l ↦ rw (lt-ltb m n l, le-ltb n m (let r : m ≤ n = omega arith in r)) (sym (and_true t))
      | inr l ↦
          elim (lt_or_le n m) [
            | inl k ↦ rw (le-ltb m n l, lt-ltb n m k) (and_true s)
            | inr k ↦ rw (le-ltb m n l, le-ltb n m k) (and-false s ∙ sym (and-false t))
          ]
    ]
  where
    and_true : (b : Bool) → b && true ≡ b
    and_true true = refl
    and_true false = refl

    and-false : (b : Bool) → b && false ≡ false
    and-false true = refl
    and-false false = refl

same_size : (s t : Bool) (m n : ℕ) → add_n s m t n ≡ add_n t n s m
same_size true true m n = let r : m + n ≡ n + m = omega arith in r
same_size false false m n = let r : m + n ≡ n + m = omega arith in r
same_size true false m n = unlike_sizes m n
same_size false true m n = unlike_sizes m n

same_sign : (s t : Bool) (m n : ℕ) → add_s s m t n ≡ add_s t n s m
same_sign true true m n = refl
same_sign false false m n = refl
same_sign true false m n = unlike_signs true false m n
same_sign false true m n = unlike_signs false true m n

pub add_swap : {f : Format} {x y : Float} {s t : Bool} {m n : ℕ} → Is f x s m → Is f y t n → near f (add_n s m t n) 1 < overflow f
    → add f x y ≡ add f y x
add_swap {f} {x} {y} {s} {t} {m} {n} X Y h =
    unique (add_units X Y h)
    (subst₂ (Is f (add f y x)) (sym (same_sign s t m n)) (ap (λ (i : ℕ). near f i 1) (sym (same_size s t m n)))
    (add_units Y X (subst (λ (i : ℕ). near f i 1 < overflow f) (same_size s t m n) h)))

-- the sum of a small float of either sign and of one above zero that is larger
pub nudge_last_two : {f : Format} {k : ℕ} {A B : Kind} {x y x' y' : Float} → Two f k B x x' → Two f k A y y' → T (nudge_ok f A B)
    → Two f k (nudge_k f A B) (add f x y) (add f x' y')
unfolding nudge_k nudge_ok nudge_two summed
nudge_last_two {f} {k} {A} {B} {x} {y} {x'} {y'} b a ok =
    let t = nudge_two a b ok in
    let o = and₃ (level? A B) (ltb (nudge_k f A B).hi (overflow f)) (not A.any && ltb B.hi (floor A)) ok in
    let j = nudge_in f a.in_second b.in_second ok in
    subst₂ (Two f k (nudge_k f A B)) (add_swap a.first b.first (under f t.in_first o.1))
    (add_swap a.second b.second (under f j o.1)) t
