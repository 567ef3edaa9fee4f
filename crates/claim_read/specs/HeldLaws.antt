-- Of a line it is enough to hold its first bytes: what it claims hangs on no more. Assumes nothing.
use Rattle.std.specs.Prelude.{ℕ, zero, suc, ◌+◌, ◌-◌, ◌≤◌, ◌<◌, ◌≡◌, Bool, true, false, cond, List, [], ◌∷◌, eqb, length, take, drop, Option, Some, None}
use Rattle.std.proofs.Math.Path.{refl}
use Rattle.std.proofs.Common.{sym, ap, ◌∙◌, ⊎_elim, zero-add, suc-add, arith, ne_eqb, lt-ltb, take_all, length-take-le}
use Rattle.algebra.specs.Order.{lt_or_le}
use Rattle.listing_read.specs.Lines.{same}
use Rattle.listing_read.specs.LineLaws.{same_true}
use Rattle.claim_read.specs.Line.{
  field_of,
  after_field,
  value_of,
  count_of,
  no_claim,
  count_claim,
  refused_word,
  refusal_said,
  value_claim,
  said,
  claim_of,
}

-- ---- a field
field_held : (k : ℕ) (l : List ℕ) → field_of (take k l) ≡ take k (field_of l)
unfolding field_of
field_held zero [] = refl
field_held zero (b ∷ l) = refl
field_held (suc k) [] = refl
field_held (suc k) (b ∷ l) = go (eqb b 32) (field_held k l)
  where
    go : (t : Bool) → field_of (take k l) ≡ take k (field_of l)
        → cond t [] (b ∷ field_of (take k l)) ≡ take (suc k) (cond t [] (b ∷ field_of l))
    go true e = refl
    go false e = ap (λ (m : List ℕ). b ∷ m) e

drop_held : (n k : ℕ) (l : List ℕ) → drop n (take (n + k) l) ≡ take k (drop n l)
drop_held zero k l = rw (zero-add k)
drop_held (suc n) k [] = rw (suc-add n k) (sym (take_all k [] (omega arith)))
drop_held (suc n) k (b ∷ l) = rw (suc-add n k) (drop_held n k l)

-- a property of a field that no longer one has is told by so many bytes
module _ {A : Type 0} (f : List ℕ → A) (none : A) (most : ℕ) (long : (l : List ℕ) → most < length l → f l ≡ none) where
  held : (k : ℕ) (l : List ℕ) → most < k → f (take k l) ≡ f l
  held k l h = ⊎_elim cut (λ g. ap f (take_all k l g)) (lt_or_le k (length l))
    where
      cut : k < length l → f (take k l) ≡ f l
      cut g = long (take k l) (omega (arith, length-take-le k l (omega arith))) ∙ sym (long l (omega arith))

no_name : (name l : List ℕ) → length name < length l → same l name ≡ false
no_name name l h = go (same l name) refl
  where
    go : (t : Bool) → same l name ≡ t → t ≡ false
    go true e = absurd (omega (arith, ap length (same_true l name e)))
    go false e = refl

no_value : (l : List ℕ) → 16 < length l → value_of l ≡ None
unfolding value_of
no_value l h = rw (ne_eqb (length l) 16 (λ e. omega arith))

no_count : (l : List ℕ) → 10 < length l → count_of l ≡ None
unfolding count_of
no_count l h = rw (ne_eqb (length l) 0 (λ e. omega arith), lt-ltb 10 (length l) h)

pub name_held : (name : List ℕ) (k : ℕ) (l : List ℕ) → length name < k → same (take k l) name ≡ same l name
name_held name k l h = held (λ (m : List ℕ). same m name) false (length name) (no_name name) k l h

-- ---- a line
after_held : (n k : ℕ) (l : List ℕ) → n ≡ length (field_of l) → n < k → after_field (take k l) ≡ take (k - (n + 1)) (after_field l)
unfolding after_field
after_held n k l e h =
    let whole : field_of (take k l) ≡ field_of l = field_held k l ∙ take_all k (field_of l) (omega arith) in
    let sum : k ≡ n + 1 + (k - (n + 1)) = omega arith in
    rw (whole, ← e) (ap (λ (m : ℕ). drop (n + 1) (take m l)) sum ∙ drop_held (n + 1) (k - (n + 1)) l)

-- a blank and ten digits, and a byte more to see their end
count_held : (k : ℕ) (l : List ℕ) → 10 < k → count_of (field_of (take k l)) ≡ count_of (field_of l)
count_held k l h = ap count_of (field_held k l) ∙ held count_of None 10 no_count k (field_of l) h

refusal_held : (k : ℕ) (l : List ℕ) → 18 < k → refusal_said (take k l) ≡ refusal_said l
unfolding refusal_said
refusal_held k l h =
    rw (field_held k l, name_held refused_word k (field_of l) (omega arith)) (go (same (field_of l) refused_word) refl)
  where
    go : (t : Bool) → same (field_of l) refused_word ≡ t
        → cond t (count_claim (count_of (field_of (after_field (take k l))))) no_claim
        ≡ cond t (count_claim (count_of (field_of (after_field l)))) no_claim
    go true e =
        let n : 7 ≡ length (field_of l) = ap length (sym (same_true (field_of l) refused_word e)) in
        ap count_claim (ap (λ (m : List ℕ). count_of (field_of m)) (after_held 7 k l n (omega arith))
        ∙ count_held (k - 8) (after_field l) (omega arith))
    go false e = refl

said_held : (k : ℕ) (l : List ℕ) → 18 < k → said (take k l) ≡ said l
unfolding said
said_held k l h =
    rw (field_held k l, held value_of None 16 no_value k (field_of l) (omega arith)) (go (value_of (field_of l)))
  where
    go : (w : Option ℕ) → value_claim w (take k l) ≡ value_claim w l
    go (Some v) = unfold value_claim in refl
    go None = unfold value_claim in refusal_held k l h

-- THE LAW: of a name up to three bytes, twenty-three bytes are enough
pub claim_held : (name l : List ℕ) (k : ℕ) → length name ≤ 3 → 22 < k → claim_of name (take k l) ≡ claim_of name l
unfolding claim_of
claim_held name l k n h = rw (field_held k l, name_held name k (field_of l) (omega arith)) (go (same (field_of l) name) refl)
  where
    go : (t : Bool) → same (field_of l) name ≡ t
        → cond t (said (after_field (take k l))) no_claim ≡ cond t (said (after_field l)) no_claim
    go true e =
        let m : length name ≡ length (field_of l) = ap length (sym (same_true (field_of l) name e)) in
        ap said (after_held (length name) k l m (omega arith))
        ∙ said_held (k - (length name + 1)) (after_field l) (omega arith)
    go false e = refl
