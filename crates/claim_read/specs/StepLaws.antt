-- A line read field by field, where the fields are told by their lengths. Assumes nothing.
use Rattle.std.specs.Prelude.{ℕ, ◌+◌, ◌≡◌, List, length, Some, None}
use Rattle.std.proofs.Common.{sym, ◌∙◌, arith, length-take-le}
use Rattle.std.proofs.Math.Path.{ap}
use Rattle.std.proofs.Math.Bool.{true, false}
use Rattle.std.proofs.Math.ListN.{take, drop}
use Rattle.listing_read.specs.Lines.{same}
use Rattle.claim_read.specs.Line.{
  field_of,
  after_field,
  value_of,
  count_of,
  no_claim,
  count_claim,
  refused_word,
  refusal_said,
  value_claim,
  said,
  claim_of,
}
use Rattle.claim_read.specs.FieldLaws.{field_most, field_take}

module _ (l : List ℕ) (n : ℕ) (e : n ≡ length (field_of l)) where
  pub field_size : n ≡ length (take n l)
  field_size = sym (length-take-le n l (omega (arith, field_most l)))

  first : take n l ≡ field_of l
  first = rw e (field_take l)

  after : (a : List ℕ) → a ≡ drop (n + 1) l → a ≡ after_field l
  unfolding after_field
  after a f = f ∙ ap (λ (k : ℕ). drop (k + 1) l) e

  pub refusal_there : (a : List ℕ) (m : ℕ) → same (take n l) refused_word ≡ true → a ≡ drop (n + 1) l → m ≡ length (field_of a)
      → count_claim (count_of (take m a)) ≡ refusal_said l
  unfolding refusal_said
  refusal_there a m t f g =
      let p : same (field_of l) refused_word ≡ true = rw first at t in
      let q : take m a ≡ field_of (after_field l) = rw g (field_take a) ∙ ap field_of (after a f) in
      rw (p, q)

  pub refusal_none : same (take n l) refused_word ≡ false → no_claim ≡ refusal_said l
  unfolding refusal_said
  refusal_none t = let p : same (field_of l) refused_word ≡ false = rw first at t in rw p

  pub value_there : (w : ℕ) → value_of (take n l) ≡ Some w → record { kind = 0; word = w } ≡ said l
  unfolding said value_claim
  value_there w t = let p : value_of (field_of l) ≡ Some w = rw first at t in rw p

  pub value_none : value_of (take n l) ≡ None → refusal_said l ≡ said l
  unfolding said value_claim
  value_none t = let p : value_of (field_of l) ≡ None = rw first at t in rw p

  pub name_there : (name a : List ℕ) → same (take n l) name ≡ true → a ≡ drop (n + 1) l → said a ≡ claim_of name l
  unfolding claim_of
  name_there name a t f = let p : same (field_of l) name ≡ true = rw first at t in rw (p, after a f)

  pub name_none : (name : List ℕ) → same (take n l) name ≡ false → no_claim ≡ claim_of name l
  unfolding claim_of
  name_none name t = let p : same (field_of l) name ≡ false = rw first at t in rw p
