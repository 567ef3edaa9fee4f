-- A length in millimetres is read as the micrometres that it is, one that is finer makes the line bad, and a line without a
-- point and without an m is read as before. Assumes nothing.
use Rattle.std.specs.Prelude.{ℕ, ◌≡◌, Bool, true, false, not, ◌&&◌, List, [], ◌∷◌, eqb, Option, Some, None}
use Rattle.std.specs.Option.{is_some}
use Rattle.swing_read.specs.Reading.{byte_after}
use Rattle.swing_read.specs.declared.Reading.{Reading}
use Rattle.millimetres.specs.Measured.{told, may_be_length}
use Rattle.millimetres.specs.declared.Part.TheVariants.{Figures, Held}
use Rattle.millimetres.specs.declared.Measured.{Measured}

-- ---- and so is one in which no byte is a point or an m
unfoldable pub whole_text : List ℕ → Bool
whole_text [] = true
whole_text (b ∷ bs) = not (eqb b 46) && (not (eqb b 109) && whole_text bs)

-- a number has begun
unfoldable pub begun : Option Reading → Bool
begun None = false
begun (Some r) = is_some r.value

-- what is measured, beside what was read before: the same, or a blank is held back
pub data Whole (m : Measured) (r : Option Reading) : Type 0 where
  same : m ≡ told Figures r → Whole m r
  held : (s : Option Reading) → may_be_length s ≡ true → m ≡ told Held s → r ≡ byte_after s 32 → Whole m r
