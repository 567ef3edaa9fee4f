-- A table whose claims are the lines of a listing made by anyone (document 02, 2026-11). Definitions only.
use Rattle.std.specs.Prelude.{ℕ, ◌+◌, Bool, ◌||◌, cond, List, [], ◌∷◌, eqb, ltb, length}
use Rattle.listing_read.specs.Lines.{same}
use Rattle.packed.specs.Reading.{Jobs, jobs, stopped}
use Rattle.packed.specs.declared.jobs.Job.{Job}
use Rattle.unpack_stream.specs.Text.{name_text}
use Rattle.claim.specs.Rows.{row_after, missing_at, ended_at}
use Rattle.claim.specs.declared.meeting.Claim.{Claim}
use Rattle.claim.specs.declared.rows.Checked.{Checked}
use Rattle.claim.specs.declared.rows.Checked.TheVariants.{Refused}
use Rattle.claim_read.specs.Line.{claim_of}
use Rattle.table.specs.Table.{row_meets, table_of}

-- ---- the listing's lines
-- "its header may be `carlson 1` or `carlson 2` or missing"
unfoldable pub is_header : List ℕ → Bool
is_header l =
    same l (99 ∷ 97 ∷ 114 ∷ 108 ∷ 115 ∷ 111 ∷ 110 ∷ 32 ∷ 49 ∷ [])
    || same l (99 ∷ 97 ∷ 114 ∷ 108 ∷ 115 ∷ 111 ∷ 110 ∷ 32 ∷ 50 ∷ [])

unfoldable pub without_header : List (List ℕ) → List (List ℕ)
without_header [] = []
without_header (l ∷ ls) = cond (is_header l) ls (l ∷ ls)

-- what a line claims of a job
abbrev pub line_claim : Job → List ℕ → Claim
line_claim j l = claim_of (name_text j.function) l

unfoldable pub line_meets : ℕ → Job → List ℕ → Bool
line_meets tolerance j l = row_meets tolerance j (line_claim j l)

unfoldable pub line_claims : List Job → List (List ℕ) → List Claim
line_claims [] ls = []
line_claims (j ∷ js) [] = []
line_claims (j ∷ js) (l ∷ ls) = line_claim j l ∷ line_claims js ls

-- ---- what is right: a line for each job
unfoldable pub check_lines : ℕ → Jobs → List (List ℕ) → Checked
check_lines tolerance (stopped js place n) ls = Refused n
check_lines tolerance (jobs js) ls = table_of tolerance (jobs js) (λ n. eqb (length ls) n) (line_claims js ls)

-- ---- how it is done: row by row, from what is known so far
unfoldable pub after_rows : ℕ → Checked → ℕ → List Job → List (List ℕ) → Checked
after_rows tolerance so row [] ls = ended_at so (ltb 0 (length ls))
after_rows tolerance so row (j ∷ js) [] = after_rows tolerance (missing_at so) (row + 1) js []
after_rows tolerance so row (j ∷ js) (l ∷ ls) =
    after_rows tolerance (row_after so row (line_meets tolerance j l)) (row + 1) js ls
