-- What is known of a table after each row (document 02, 2026-11). Definitions only.
use Rattle.refusals.specs.declared.Refusal.TheVariants.{NumbersDiffer}
use Rattle.std.specs.Prelude.{ℕ, Bool, cond}
use Rattle.claim.specs.declared.rows.Checked.{Checked}
use Rattle.claim.specs.declared.rows.Checked.TheVariants.{Accepted, BadRow, Refused}

-- a row more: "the first bad row" stays
unfoldable pub row_after : Checked → ℕ → Bool → Checked
row_after (Refused n) row met = Refused n
row_after (BadRow first) row met = BadRow first
row_after Accepted row met = cond met Accepted (BadRow row)

-- a job that has no claim, or a claim that has no job: "22, exactly where the list is sound and claims and jobs differ in number"
unfoldable pub missing_at : Checked → Checked
missing_at (Refused n) = Refused n
missing_at (BadRow first) = Refused NumbersDiffer
missing_at Accepted = Refused NumbersDiffer

-- the list has ended, and claims may be left
unfoldable pub ended_at : Checked → Bool → Checked
ended_at so left = cond left (missing_at so) so
