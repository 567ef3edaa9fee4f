-- What is right of a table (document 02, 2026-11). Definitions only.
use Rattle.refusals.specs.declared.Refusal.TheVariants.{NumbersDiffer}
use Rattle.std.specs.Prelude.{ℕ, ◌+◌, ◌*◌, Bool, cond, List, [], ◌∷◌, eqb, length}
use Rattle.packed.specs.Reading.{Jobs, jobs, stopped, read_all}
use Rattle.packed.specs.declared.jobs.Job.{Job}
use Rattle.answers.specs.Answers.{answer_of}
use Rattle.job_answers.specs.JobAnswers.{call_of_job}
use Rattle.claim.specs.Claims.{meets_of}
use Rattle.claim.specs.declared.meeting.Claim.{Claim}
use Rattle.claim.specs.declared.rows.Checked.{Checked}
use Rattle.claim.specs.declared.rows.Checked.TheVariants.{Accepted, BadRow, Refused}

-- ---- a row
-- a job, and what is claimed of it
abbrev pub row_meets : ℕ → Job → Claim → Bool
row_meets tolerance j c = meets_of tolerance (answer_of (call_of_job j)) c

-- ---- a table
-- a claim is a pair of words: "value bits or a refusal number"
unfoldable pub claims_of : List ℕ → List Claim
claims_of [] = []
claims_of (kind ∷ []) = []
claims_of (kind ∷ word ∷ words) = record { kind = kind; word = word } ∷ claims_of words

-- "accepts exactly if each claim is .., else it names the first bad row"; the first of these has that number
unfoldable pub rows_from : ℕ → ℕ → List Job → List Claim → Checked
rows_from tolerance row [] cs = Accepted
rows_from tolerance row (j ∷ js) [] = Accepted
rows_from tolerance row (j ∷ js) (c ∷ cs) = cond (row_meets tolerance j c) (rows_from tolerance (row + 1) js cs) (BadRow row)

-- "Refusals: the work list's own, then 22"; `same` is whether there are claims for so many jobs
unfoldable pub table_of : ℕ → Jobs → (ℕ → Bool) → List Claim → Checked
table_of tolerance (stopped js place n) same cs = Refused n
table_of tolerance (jobs js) same cs = cond (same (length js)) (rows_from tolerance 0 js cs) (Refused NumbersDiffer)

-- a list's bytes, and two words for each of its jobs
unfoldable pub check_of : ℕ → List ℕ → List ℕ → Checked
check_of tolerance list words = table_of tolerance (read_all list) (λ n. eqb (length words) (2 * n)) (claims_of words)
