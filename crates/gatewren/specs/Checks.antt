-- The check of a table as C sees it: 0, the number for no, or GATEWREN_BAD_ROW with the row written. Definitions only.
use Rattle.std.specs.Prelude.{ℕ}
use Rattle.refusals.specs.Numbers.{refusal_number}
use Rattle.claim.specs.declared.rows.Checked.{Checked}
use Rattle.claim.specs.declared.rows.Checked.TheVariants.{Accepted, BadRow, Refused}

-- GATEWREN_BAD_ROW
abbrev pub bad_row : ℕ
bad_row = 4294967295

unfoldable pub checked_number : Checked → ℕ
checked_number Accepted = 0
checked_number (BadRow row) = bad_row
checked_number (Refused r) = refusal_number r

-- what stands in the row's place afterwards, and what stood there before
unfoldable pub checked_row : Checked → ℕ → ℕ
checked_row Accepted before = before
checked_row (BadRow row) before = row
checked_row (Refused r) before = before
