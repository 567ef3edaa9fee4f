-- Exactly the lines of one or three decimal numbers are read: numbers that are written are read back, and what is read is how
-- they are written. Assumes nothing.
use Rattle.std.specs.Prelude.{ℕ, List, [], ◌∷◌, ◌++◌, Option, Some, None}
use Rattle.writing.specs.Decimal.{decimal}
use Rattle.swing_read.specs.declared.Ended.{Ended}
use Rattle.swing_read.specs.declared.Ended.TheVariants.{NoneYet, First, Second}
use Rattle.swing_read.specs.declared.Reading.{Reading}

-- a reading of a line that is not bad, by its fields
abbrev pub at : Ended → Option ℕ → Option Reading
at ended value = Some (record { ended = ended; value = value })

-- ---- numbers that are written are read back
abbrev pub three_text : ℕ → ℕ → ℕ → List ℕ
three_text a b c = decimal 19 a ++ (32 ∷ (decimal 19 b ++ (32 ∷ decimal 19 c)))

-- the text of a reading that is not bad: the numbers that ended, each with its blank, and the one that has not
unfoldable pub front_text : Ended → List ℕ
front_text NoneYet = []
front_text (First a) = decimal 19 a ++ 32 ∷ []
front_text (Second a b) = decimal 19 a ++ (32 ∷ (decimal 19 b ++ 32 ∷ []))

unfoldable pub part_text : Option ℕ → List ℕ
part_text None = []
part_text (Some n) = decimal 19 n
