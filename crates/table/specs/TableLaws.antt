-- What the check of a table says (document 02, 2026-11). Assumes nothing.
use Rattle.std.specs.Prelude.{ℕ, zero, suc, ◌*◌, ◌≡◌}
use Rattle.std.proofs.Math.Bool.{true, false}
use mathlib.Core.List.{List, [], ◌∷◌}
use Rattle.std.proofs.Math.ListN.{length}
use Rattle.packed.specs.Reading.{jobs, read_all}
use Rattle.packed.specs.declared.jobs.Job.{Job}
use Rattle.answers.specs.Answers.{answer_of}
use Rattle.job_answers.specs.JobAnswers.{call_of_job}
use Rattle.claim.specs.Claims.{own_claim}
use Rattle.claim.specs.declared.meeting.Claim.{Claim}
use Rattle.table.specs.Table.{row_meets}

-- ---- the statements
-- each claim meets our answer, and there are as many as jobs
abbrev pub Met : ℕ → List Job → List Claim → Type 0
Met t [] [] = Unit {0}
Met t [] (c ∷ cs) = ⊥
Met t (j ∷ js) [] = ⊥
Met t (j ∷ js) (c ∷ cs) = (row_meets t j c ≡ true) × Met t js cs

-- the row n, counted from 0, is the first that does not
abbrev pub FirstBad : ℕ → ℕ → List Job → List Claim → Type 0
FirstBad t n [] cs = ⊥
FirstBad t n (j ∷ js) [] = ⊥
FirstBad t zero (j ∷ js) (c ∷ cs) = row_meets t j c ≡ false
FirstBad t (suc n) (j ∷ js) (c ∷ cs) = (row_meets t j c ≡ true) × FirstBad t n js cs

-- the list is sound, and there are two words for each of its jobs
pub record Sound (list words : List ℕ) : Type 0 where
  pub js : List Job
  pub read : read_all list ≡ jobs js
  pub same : length words ≡ 2 * length js

-- ---- our own answers
-- two words for each job
unfoldable pub own_words : List Job → List ℕ
own_words [] = []
own_words (j ∷ js) = let c = own_claim (answer_of (call_of_job j)) in c.kind ∷ c.word ∷ own_words js
