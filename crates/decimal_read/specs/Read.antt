-- What a text says. Definitions only.
use Rattle.std.specs.Prelude.{ℕ, true, false, cond, Result, Ok, Err, List, [], ◌∷◌, Float}
use Rattle.std.specs.Float.{nan, inf}
use Rattle.std.specs.Float.Ieee.Scale.{finite}
use Rattle.listing_read.specs.Lines.{same}
use Rattle.decimal_scan.specs.Number.{text_value}
use Rattle.decimal_scan.specs.declared.scan.Scan.{Scan}
use Rattle.decimal_read.specs.declared.NoDecimal.{NoDecimal}
use Rattle.decimal_read.specs.declared.NoDecimal.TheVariants.{TooLarge}
use Rattle.decimal_read.specs.Scanned.{scanned_of}

-- "overflow (refused, not infinity)"
unfoldable pub settled_as : Float → Result Float NoDecimal
settled_as x = cond (finite x) (Ok x) (Err TooLarge)

-- "anything else is a bad number, told with its place"
unfoldable pub number_from : List ℕ → Result Scan NoDecimal → Result Float NoDecimal
number_from l (Ok s) = settled_as (text_value l)
number_from l (Err e) = Err e

unfoldable pub number_of : List ℕ → Result Float NoDecimal
number_of l = number_from l (scanned_of l)

-- "`inf`, `-inf`, `nan` as such"
unfoldable pub read_of : List ℕ → Result Float NoDecimal
read_of l =
    cond (same l (105 ∷ 110 ∷ 102 ∷ [])) (Ok (inf false))
    (cond (same l (45 ∷ 105 ∷ 110 ∷ 102 ∷ [])) (Ok (inf true))
    (cond (same l (110 ∷ 97 ∷ 110 ∷ [])) (Ok nan) (number_of l)))
