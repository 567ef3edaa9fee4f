-- How many jobs a list has. Definitions only.
use Rattle.std.specs.Prelude.{ℕ, ◌+◌, Result, Ok, Err, length}
use Rattle.packed.specs.Reading.{Jobs, jobs, stopped}
use Rattle.refusals.specs.declared.Refusal.{Refusal}

-- besides n that were counted; or the list's own refusal
unfoldable pub count_of : ℕ → Jobs → Result ℕ Refusal
count_of n (jobs js) = Ok (n + length js)
count_of n (stopped js place r) = Err r
