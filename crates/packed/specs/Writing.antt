-- What is written of a work list (document 02, 2026-03). Definitions only.
use Rattle.std.specs.Prelude.{ℕ, ◌+◌, ◌-◌, cond, List, Result, Ok, Err, eqb, ltb}
use Rattle.std.proofs.lemmas.List.Edits.{sets}
use Rattle.packed.specs.Jobs.{arity_of, job_bytes, job_length}
use Rattle.packed.specs.declared.jobs.Job.{Job}
use Rattle.refusals.specs.declared.Refusal.{Refusal}
use Rattle.refusals.specs.declared.Refusal.TheVariants.{UnknownFunction, NoRoom}

-- "what is left" from a place on
unfoldable pub left_after : ℕ → ℕ → ℕ
left_after length place = length - place

-- "The writer tests 16, then 17", "exactly when the job's length exceeds what is left"
unfoldable pub write_at : ℕ → ℕ → Job → Result ℕ Refusal
write_at length place j =
    cond (eqb (arity_of j.function) 0) (Err UnknownFunction)
    (cond (ltb (left_after length place) (job_length j)) (Err NoRoom) (Ok (place + job_length j)))

-- "A refused write changes no byte"
unfoldable pub bytes_after : Result ℕ Refusal → List ℕ → ℕ → Job → List ℕ
bytes_after (Ok next) before place j = sets before place (job_bytes j)
bytes_after (Err r) before place j = before
