-- The report of a work list (document 02, 2026-05). Definitions only.
use Rattle.std.specs.Prelude.{ℕ, cond, List, Result, [], ◌∷◌}
use Rattle.std.specs.Result.{is_ok}
use Rattle.refusals.specs.declared.Refusal.{Refusal}
use Rattle.packed.specs.Reading.{Jobs, jobs, stopped, read_all}
use Rattle.packed.specs.declared.jobs.Job.{Job}
use Rattle.worklist.specs.Count.{count_of}
use Rattle.answers.specs.Answers.{answer_of}
use Rattle.job_answers.specs.JobAnswers.{call_of_job}
use Rattle.tally.specs.Tally.{counted_of}
use Rattle.report_words.specs.Words.{counted_added}
use Rattle.report_words.specs.Room.{list_judged}

-- "The tallies and sum are those of the list of answers": a job adds what its answer counts to its function's block
unfoldable pub job_added : List ℕ → Job → List ℕ
job_added ws j = counted_added ws j.function (counted_of (answer_of (call_of_job j)))

unfoldable pub jobs_added : List ℕ → List Job → List ℕ
jobs_added ws [] = ws
jobs_added ws (j ∷ js) = jobs_added (job_added ws j) js

-- the jobs of a list, before its first refusal
unfoldable pub jobs_of : Jobs → List Job
jobs_of (jobs js) = js
jobs_of (stopped js place n) = js

-- "Refusals: the work list's own, then 18"
unfoldable pub report_judged : List ℕ → List ℕ → Result (Unit {0}) Refusal
report_judged ws list = list_judged ws (count_of 0 (read_all list))

-- "each leaves the report unchanged"
unfoldable pub list_after : List ℕ → List ℕ → List ℕ
list_after ws list = cond (is_ok (report_judged ws list)) (jobs_added ws (jobs_of (read_all list))) ws
