-- `field_length` meets its contract: a field ends at the first blank, or with the text. Assumes nothing.
use Rattle.std.proofs.Common.{ℕ, ◌≡◌, ◌+◌, refl, sym, List, [], ◌∷◌, Bool, true, false, cond, Some, None, ◌==◌, nat_lt, length, arith, ltb-false}
use Rattle.std.specs.List.{position, position_or_len}
use Rattle.std.specs.Option.{unwrap_or}
use Rattle.std.proofs.lemmas.List.Recursion.{is_position_or_len}
use Rattle.claim_read.specs.Line.{field_of}
use Rattle.claim_read.specs.FieldLaws.{field_most}
use Rattle.claim_read.proofs.fields.field_length.Goals as goal

ends : (l : List ℕ) → length (field_of l) ≡ position_or_len (λ b. b == 32) l
unfolding field_of
ends l = is_position_or_len (λ l. length (field_of l)) (λ b. b == 32) refl step l
  where
    step : (b : ℕ) (l : List ℕ) → length (field_of (b ∷ l)) ≡ cond (b == 32) 0 (1 + length (field_of l))
    step b l = go (b == 32)
      where
        go : (t : Bool) → length (cond t [] (b ∷ field_of l)) ≡ cond t 0 (1 + length (field_of l))
        go true = refl
        go false = omega arith

-- the first blank, or the end
found : (l : List ℕ) → unwrap_or (position (λ b. b == 32) l) (length l) ≡ length (field_of l)
found l = rw (sym (ends l)) (go (nat_lt (length (field_of l)) (length l)) refl)
  where
    go : (t : Bool) → nat_lt (length (field_of l)) (length l) ≡ t
        → unwrap_or (cond t (Some (length (field_of l))) None) (length l) ≡ length (field_of l)
    go true e = refl
    go false e = omega (arith, ltb-false (length (field_of l)) (length l) e, field_most l)

pub returns : goal.returns
returns c = rw (c.unwrap_or.ensures, c.first_blank.ensures) (found _)
