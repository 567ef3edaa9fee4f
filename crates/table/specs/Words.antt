-- How a table of words is gone through. Definitions only.
use Rattle.std.specs.Prelude.{ℕ, ◌+◌, cond, List, [], ◌∷◌, leb}
use Rattle.packed.specs.declared.jobs.Job.{Job}
use Rattle.claim.specs.Rows.{row_after, missing_at}
use Rattle.claim.specs.declared.rows.Checked.{Checked}
use Rattle.table.specs.Table.{row_meets}

-- a job more, with the words that are left
unfoldable pub row_more : ℕ → Checked → ℕ → Job → List ℕ → Checked
row_more tolerance so row j [] = missing_at so
row_more tolerance so row j (kind ∷ []) = missing_at so
row_more tolerance so row j (kind ∷ word ∷ words) = row_after so row (row_meets tolerance j (record { kind = kind; word = word }))

-- the place in the words after a job more
unfoldable pub words_after : ℕ → ℕ → ℕ
words_after length at = cond (leb (at + 2) length) (at + 2) at
