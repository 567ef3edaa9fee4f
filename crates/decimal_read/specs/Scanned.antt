-- A whole text, scanned: a number, or the place of the byte that makes it none, or its end. Definitions only.
use Rattle.std.specs.Prelude.{ℕ, ◌+◌, cond, Result, Ok, Err, List, [], ◌∷◌}
use Rattle.decimal_scan.specs.declared.scan.Scan.{Scan}
use Rattle.decimal_scan.specs.Scan.{is_bad, start_of, byte_after, is_whole}
use Rattle.decimal_read.specs.declared.NoDecimal.{NoDecimal}
use Rattle.decimal_read.specs.declared.NoDecimal.TheVariants.{NoNumber}

unfoldable pub ended_at : Scan → ℕ → Result Scan NoDecimal
ended_at s at = cond (is_whole s) (Ok s) (Err (NoNumber at))

unfoldable pub scanned_from : Scan → ℕ → List ℕ → Result Scan NoDecimal
scanned_from s at [] = ended_at s at
scanned_from s at (b ∷ bs) = cond (is_bad (byte_after s b).phase) (Err (NoNumber at)) (scanned_from (byte_after s b) (at + 1) bs)

unfoldable pub scanned_of : List ℕ → Result Scan NoDecimal
scanned_of l = scanned_from start_of 0 l
