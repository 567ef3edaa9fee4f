-- A line of which something has come is no longer at its start. Assumes nothing.
use Rattle.std.specs.Prelude.{ℕ, ◌≡◌, Bool, true, false, cond, List, [], ◌∷◌, eqb, Option, Some, None}
use Rattle.std.specs.Option.{option_and_then}
use Rattle.std.proofs.Math.Path.{refl}
use Rattle.swing_read.specs.Reading.{start_of, ending, blank_after, figure_of, longer_value, longer_after, zero_alone}
use Rattle.swing_read.specs.Reading.{digit_after}
use Rattle.swing_read.specs.Reading.{byte_after, bytes_after, unbegun, at_start}
use Rattle.swing_read.specs.declared.Ended.{Ended}
use Rattle.swing_read.specs.declared.Ended.TheVariants.{NoneYet, First, Second}
use Rattle.swing_read.specs.declared.Reading.{Reading}

longer_begins : (r : Reading) (n : Option ℕ)
    → at_start (option_and_then (λ n. Some (record { ended = r.ended; value = Some n })) n) ≡ false
unfolding at_start unbegun
longer_begins r None = refl
longer_begins r (Some n) = refl

digit_begins : (r : Reading) (d : ℕ) → at_start (digit_after r d) ≡ false
unfolding digit_after longer_after
digit_begins r d = go (zero_alone r.value)
  where
    none : at_start None ≡ false
    none = unfold at_start in refl

    go : (t : Bool)
        → at_start (cond t None
        (option_and_then (λ n. Some (record { ended = r.ended; value = Some n })) (longer_value r.value d))) ≡ false
    go true = none
    go false = longer_begins r (longer_value r.value d)

ending_begins : (n : Option ℕ) (e : Ended) → at_start (ending n e) ≡ false
unfolding at_start unbegun ending
ending_begins None e = refl
ending_begins (Some n) NoneYet = refl
ending_begins (Some n) (First a) = refl
ending_begins (Some n) (Second a b) = refl

pub byte_begins : (r : Option Reading) (b : ℕ) → at_start (byte_after r b) ≡ false
unfolding byte_after
byte_begins None b = unfold at_start in refl
byte_begins (Some r) b = go (eqb b 32) (figure_of b)
  where
    go : (t : Bool) (d : Option ℕ) → at_start (cond t (blank_after r) (option_and_then (digit_after r) d)) ≡ false
    go true d = unfold blank_after in ending_begins r.value r.ended
    go false None = unfold at_start in refl
    go false (Some d) = digit_begins r d

pub line_begins : (l : List ℕ) (b : ℕ) (r : Option Reading) → at_start (bytes_after r (b ∷ l)) ≡ false
unfolding bytes_after
line_begins [] b r = byte_begins r b
line_begins (x ∷ l) b r = line_begins l x (byte_after r b)

pub nothing_yet : at_start (bytes_after (Some start_of) []) ≡ true
unfolding at_start unbegun bytes_after start_of
nothing_yet = refl
