-- What another order of three values leaves as it is, and that three in order stand in one order only, where `<` tells any two
-- of them apart. Assumes nothing.
use Rattle.std.specs.Prelude.{ℕ, ◌+◌, ◌≡◌, refl, Bool, true, false, ◌&&◌, ◌||◌, ltb, Float}
use Rattle.std.proofs.Common.{sym, ap, ap₂, ◌∙◌, true≢false, add_comm, add_assoc}
use Rattle.std.proofs.Math.Bool.{and_comm, or_comm}
use Rattle.std.specs.Float.Ieee.{is_nan, lt}
use Rattle.sorting.specs.declared.Triple.{Triple}
use Rattle.sorting.specs.Sorting.{three, Permuted, as_it_is, first_two, last_two, and_then}
use Rattle.sorting.specs.Order.{lt_once, not_below_through}
use Rattle.sorting.specs.Permuted.{Each, ToldApart, Upward, mapped}

-- ---- orders
-- each goes back
pub undone : {t u : Triple} → Permuted t u → Permuted u t
undone as_it_is = as_it_is
undone first_two = first_two
undone last_two = last_two
undone (and_then p q) = and_then (undone q) (undone p)

-- the first comes last
pub turned : {x y z : Float} → Permuted (three x y z) (three y z x)
turned = and_then first_two last_two

-- the last comes first
pub turned_back : {x y z : Float} → Permuted (three x y z) (three z x y)
turned_back = and_then last_two first_two

-- the ends are exchanged: with `as_it_is`, `first_two` and `last_two` these are all six
pub ends : {x y z : Float} → Permuted (three x y z) (three z y x)
ends = and_then first_two turned_back

pub each_permuted : {P : Float → Type 0} {t u : Triple} → Permuted t u → Each P t → Each P u
each_permuted as_it_is e = e
each_permuted first_two e = record { x = e.y; y = e.x; z = e.z }
each_permuted last_two e = record { x = e.x; y = e.z; z = e.y }
each_permuted (and_then p q) e = each_permuted q (each_permuted p e)

pub mapped_permuted : (f : Float → Float) {t u : Triple} → Permuted t u → Permuted (mapped f t) (mapped f u)
mapped_permuted f as_it_is = as_it_is
mapped_permuted f first_two = first_two
mapped_permuted f last_two = last_two
mapped_permuted f (and_then p q) = and_then (mapped_permuted f p) (mapped_permuted f q)

-- what is put together of the three by an operation that takes them in any order
module _ {A : Type 0} (op : A → A → A) (swap : (a b : A) → op a b ≡ op b a)
    (move : (a b c : A) → op (op a b) c ≡ op a (op b c)) (f : Float → A) where
  abbrev pub joined : Triple → A
  joined t = op (op (f t.x) (f t.y)) (f t.z)

  pub joined_permuted : {t u : Triple} → Permuted t u → joined t ≡ joined u
  joined_permuted as_it_is = refl
  joined_permuted (first_two {x} {y} {z}) = ap (λ v. op v (f z)) (swap (f x) (f y))
  joined_permuted (last_two {x} {y} {z}) =
      move (f x) (f y) (f z) ∙ ap (op (f x)) (swap (f y) (f z)) ∙ sym (move (f x) (f z) (f y))
  joined_permuted (and_then p q) = joined_permuted p ∙ joined_permuted q

-- whether two of the three pass a test
module _ (f : Float → Bool) where
  abbrev pub two_of : Triple → Bool
  two_of t = (f t.x && f t.y) || ((f t.x || f t.y) && f t.z)

  pub two_permuted : {t u : Triple} → Permuted t u → two_of t ≡ two_of u
  two_permuted as_it_is = refl
  two_permuted (first_two {x} {y} {z}) = ap₂ (λ a b. a || (b && f z)) (and_comm (f x) (f y)) (or_comm (f x) (f y))
  two_permuted (last_two {x} {y} {z}) = last (f x) (f y) (f z)
    where
      last : (a b c : Bool) → (a && b) || ((a || b) && c) ≡ (a && c) || ((a || c) && b)
      last true b c = or_comm b c
      last false b c = and_comm b c
  two_permuted (and_then p q) = two_permuted p ∙ two_permuted q

-- ---- three in order, by how many of them are below a value
-- one that passed a test
one : Bool → ℕ
one true = 1
one false = 0

-- how many of three are below v
abbrev count : Float → Triple → ℕ
count v t = one (lt t.x v) + one (lt t.y v) + one (lt t.z v)

count_permuted : (v : Float) {t u : Triple} → Permuted t u → count v t ≡ count v u
count_permuted v p = joined_permuted ◌+◌ add_comm add_assoc (λ a. one (lt a v)) p

-- what the tests of three in order say: if the first is not below a value, the second is not, and then the third is not either
record Falls (p q r : Bool) : Type 0 where
  first : p ≡ false → q ≡ false
  second : q ≡ false → r ≡ false

-- the first is below it if one of them is, the second if two are, the third if all are
record Ranks (p q r : Bool) : Type 0 where
  first : p ≡ ltb 0 (one p + one q + one r)
  second : q ≡ ltb 1 (one p + one q + one r)
  third : r ≡ ltb 2 (one p + one q + one r)

ranks : (p q r : Bool) → Falls p q r → Ranks p q r
unfolding one
ranks true true true f = record { first = refl; second = refl; third = refl }
ranks true true false f = record { first = refl; second = refl; third = refl }
ranks true false true f = absurd (true≢false (f.second refl))
ranks true false false f = record { first = refl; second = refl; third = refl }
ranks false true r f = absurd (true≢false (f.first refl))
ranks false false true f = absurd (true≢false (f.second refl))
ranks false false false f = record { first = refl; second = refl; third = refl }

not_itself : (a : Float) → lt a a ≡ false
not_itself a = go (lt a a) refl
  where
    go : (b : Bool) → lt a a ≡ b → lt a a ≡ false
    go true e = lt_once a a e
    go false e = e

module _ {P : Float → Type 0} (told : ToldApart P) where
  -- two that are below the same values are one
  pub same_below : {a b : Float} → P a → P b → ((v : Float) → lt a v ≡ lt b v) → a ≡ b
  same_below {a} {b} p q e = told.apart p q (e b ∙ not_itself b) (sym (e a) ∙ not_itself a)

  ranked : {t : Triple} → Each P t → Upward t → (v : Float) → Ranks (lt t.x v) (lt t.y v) (lt t.z v)
  ranked {t} e r v =
      ranks (lt t.x v) (lt t.y v) (lt t.z v)
      (record {
        first = λ h. not_below_through v t.x t.y (told.number e.x) h r.second;
        second = λ h. not_below_through v t.y t.z (told.number e.y) h r.third;
      })

  -- so each place of three in order has its own value
  pub upward_only : {t u : Triple} → Permuted t u → Each P t → Upward t → Upward u → t ≡ u
  upward_only {t} {u} p e r s =
      let f = each_permuted p e in
      ap (λ a. three a t.y t.z)
      (same_below e.x f.x (λ v. (ranked e r v).first ∙ ap (ltb 0) (count_permuted v p) ∙ sym (ranked f s v).first))
      ∙ ap (λ b. three u.x b t.z)
      (same_below e.y f.y (λ v. (ranked e r v).second ∙ ap (ltb 1) (count_permuted v p) ∙ sym (ranked f s v).second))
      ∙ ap (λ c. three u.x u.y c)
      (same_below e.z f.z (λ v. (ranked e r v).third ∙ ap (ltb 2) (count_permuted v p) ∙ sym (ranked f s v).third))
