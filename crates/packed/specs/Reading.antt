-- What is read of a work list (document 02, 2026-03). Definitions only.
use Rattle.std.specs.Prelude.{ℕ, zero, suc, cond, List, Option, Some, None, Result, Ok, Err, [], ◌∷◌, eqb, ltb, length}
use Rattle.packed_number.specs.Numbers.{number_at}
use Rattle.packed.specs.Jobs.{arity_of, with_argument}
use Rattle.packed_number.specs.declared.Number.{Number}
use Rattle.packed.specs.declared.jobs.Job.{Job}
use Rattle.packed.specs.declared.read.Got.{Got}
use Rattle.refusals.specs.declared.Refusal.{Refusal}
use Rattle.refusals.specs.declared.Refusal.TheVariants.{UnknownFunction}

-- a function's number with no argument yet, and the place after it
unfoldable pub begun : ℕ → ℕ → Got
begun f next = record { job = record { function = f; a = 0; b = 0; c = 0; d = 0 }; next = next }

-- the function's number, judged as a number first; "16 unknown function" comes before any argument is looked at
unfoldable pub function_read : Result Number Refusal → Result Got Refusal
function_read (Ok n) = cond (eqb (arity_of n.value) 0) (Err UnknownFunction) (Ok (begun n.value n.next))
function_read (Err r) = Err r

-- one argument more, as a number
unfoldable pub argument_read : Job → ℕ → Result Number Refusal → Result Got Refusal
argument_read j k (Ok n) = Ok (record { job = with_argument j k n.value; next = n.next })
argument_read j k (Err r) = Err r

-- the argument at k, where the function has one
unfoldable pub argument_at : List ℕ → Got → ℕ → Result Got Refusal
argument_at bytes got k = cond (ltb k (arity_of got.job.function)) (argument_read got.job k (number_at bytes got.next))
    (Ok got)

-- after what was read so far; a refusal stays
unfoldable pub argument_after : List ℕ → Result Got Refusal → ℕ → Result Got Refusal
argument_after bytes (Ok got) k = argument_at bytes got k
argument_after bytes (Err r) k = Err r

-- the job at a place that is inside
unfoldable pub job_at : List ℕ → ℕ → Result Got Refusal
job_at bytes place =
    argument_after bytes
    (argument_after bytes (argument_after bytes (argument_after bytes (function_read (number_at bytes place)) 0) 1) 2) 3

-- what a reader says: a job and the place after it, nothing left, or why not
abbrev pub Read : Type 0
Read = Result (Option Got) Refusal

-- a job at a place is one that was found
unfoldable pub found : Result Got Refusal → Read
found (Ok got) = Ok (Some got)
found (Err r) = Err r

-- "With nothing left, the reader says so"; a place beyond the bytes is as one at their end
unfoldable pub read_at : List ℕ → ℕ → Read
read_at bytes place = cond (ltb place (length bytes)) (found (job_at bytes place)) (Ok None)

-- ---- a whole list: its jobs; or those before the first refusal, the place that the reader was left at, and why
pub data Jobs : Type 0 where
  jobs : List Job → Jobs
  stopped : List Job → ℕ → Refusal → Jobs

unfoldable pub with_job : Job → Jobs → Jobs
with_job j (jobs js) = jobs (j ∷ js)
with_job j (stopped js place r) = stopped (j ∷ js) place r

-- after a read, with what is done from the next place on
unfoldable pub read_on : ℕ → Read → (ℕ → Jobs) → Jobs
read_on place (Ok (Some got)) rest = with_job got.job (rest got.next)
read_on place (Ok None) rest = jobs []
read_on place (Err r) rest = stopped [] place r

-- from a place on, so many jobs at most
unfoldable pub read_from : ℕ → List ℕ → ℕ → Jobs
read_from zero bytes place = jobs []
read_from (suc most) bytes place = read_on place (read_at bytes place) (read_from most bytes)

-- (a job takes a byte at least, so there are no more jobs than bytes)
unfoldable pub read_all : List ℕ → Jobs
read_all bytes = read_from (suc (length bytes)) bytes 0
