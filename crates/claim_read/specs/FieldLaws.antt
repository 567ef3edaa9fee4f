-- Where a field ends. Assumes nothing.
use Rattle.std.specs.Prelude.{ℕ, suc, ◌+◌, ◌≤◌, ◌<◌, ◌≡◌, refl, Bool, true, false, cond, List, [], ◌∷◌, ◌++◌, eqb, length, get_or, take, drop}
use Rattle.std.proofs.Common.{ap, add-one, arith, drop_of_length-le, drop-cons}
use borrow.Author.Tests.{eq-eqb, ne_eqb}
use Rattle.std.proofs.Math.Seq.{drop-append-add}
use Rattle.claim_read.specs.Line.{field_of, after_field}

-- a field is the beginning of what it is the field of
pub field_most : (l : List ℕ) → length (field_of l) ≤ length l
unfolding field_of
field_most [] = omega arith
field_most (b ∷ l) = go (eqb b 32) (field_most l)
  where
    go : (t : Bool) → length (field_of l) ≤ length l → length (cond t [] (b ∷ field_of l)) ≤ suc (length l)
    go true h = omega arith
    go false h = omega arith

pub field_take : (l : List ℕ) → take (length (field_of l)) l ≡ field_of l
unfolding field_of
field_take [] = refl
field_take (b ∷ l) = go (eqb b 32) (field_take l)
  where
    go : (t : Bool) → take (length (field_of l)) l ≡ field_of l
        → take (length (cond t [] (b ∷ field_of l))) (b ∷ l) ≡ cond t [] (b ∷ field_of l)
    go true e = refl
    go false e = ap (λ (m : List ℕ). b ∷ m) e

-- ---- from a place on
module _ (l : List ℕ) (i : ℕ) where
  pub field_blank : i < length l → get_or l i 0 ≡ 32 → length (field_of (drop i l)) ≡ 0
  unfolding field_of
  field_blank h e = rw (drop-cons l i 0 h, eq-eqb (get_or l i 0) 32 e)

  pub field_more : i < length l → (get_or l i 0 ≡ 32 → ⊥) → length (field_of (drop i l)) ≡ suc (length (field_of (drop (i + 1) l)))
  unfolding field_of
  field_more h e = rw (drop-cons l i 0 h, ne_eqb (get_or l i 0) 32 e, add-one)

  pub field_end : length l ≤ i → length (field_of (drop i l)) ≡ 0
  unfolding field_of
  field_end h = rw (drop_of_length-le l {i = i} h)

-- ---- a field that is known
-- every byte is above k
abbrev pub Over : ℕ → List ℕ → Type 0
Over k [] = Unit {0}
Over k (b ∷ l) = (k < b) × Over k l

-- a text with no blank, then a blank or nothing
pub field_is : (l m : List ℕ) → Over 32 l → field_of (l ++ 32 ∷ m) ≡ l
unfolding field_of
field_is [] m h = refl
field_is (b ∷ l) m h = rw (ne_eqb b 32 (λ e. omega (arith, h.0)), field_is l m h.1)

pub field_all : (l : List ℕ) → Over 32 l → field_of l ≡ l
unfolding field_of
field_all [] h = refl
field_all (b ∷ l) h = rw (ne_eqb b 32 (λ e. omega (arith, h.0)), field_all l h.1)

pub after_is : (l m : List ℕ) → Over 32 l → after_field (l ++ 32 ∷ m) ≡ m
unfolding after_field
after_is l m h = rw (field_is l m h) (drop-append-add l (32 ∷ m) 1)
