-- Lines of the listing's form to a packed work list, a byte after the other. Definitions only.
use Rattle.std.specs.Prelude.{ℕ, ◌+◌, Bool, true, false, cond, List, [], ◌∷◌, ◌++◌, eqb, get_or, take, Option, Some, None}
use Rattle.calls.specs.Calls.{arguments_of, number_of}
use Rattle.calls.specs.declared.Call.{Call}
use Rattle.listing_read.specs.Lines.{longest_line, call_of}
use Rattle.packed.specs.Jobs.{job_bytes}
use Rattle.packed.specs.declared.jobs.Job.{Job}
use Rattle.writing.specs.Fed.{Ran, quiet, Fed, run}
use Rattle.writing.specs.Input.{last_line}
use Rattle.pack_stream.specs.declared.stream.Progress.{Progress}

-- a call's function number and its arguments
unfoldable pub job_of : Call → Job
job_of c = record {
  function = number_of c;
  a = get_or (arguments_of c) 0 0;
  b = get_or (arguments_of c) 1 0;
  c = get_or (arguments_of c) 2 0;
  d = get_or (arguments_of c) 3 0;
}

-- the state: what is held of a line that has not ended, and whether the last that did was bad
pub record Held : Type 0 where
  pub rest : List ℕ
  pub bad : Bool

-- no line was bad
abbrev pub holding : List ℕ → Held
holding held = record { rest = held; bad = false }

-- what comes of a line that has ended: its job; or it is bad. The lines are counted
unfoldable pub line_end : Option Call → Ran Held
line_end (Some c) = record { said = job_bytes (job_of c); count = 1; left = holding [] }
line_end None = record { said = []; count = 1; left = record { rest = []; bad = true } }

-- ---- what is right: the lines of the input in order, up to a bad one
abbrev pub pack_lines : Held → List (List ℕ) → Ran Held
pack_lines = run (λ h l. line_end (call_of l)) (λ h. h.bad)

-- ---- how it is done: of a line that has not ended so many bytes are held, one more than the longest good line has
abbrev pub held_length : ℕ
held_length = longest_line + 1

-- a byte more
unfoldable pub pack_byte : Held → ℕ → Ran Held
pack_byte h b = cond (eqb b 10) (line_end (call_of h.rest)) (quiet (holding (take held_length (h.rest ++ b ∷ []))))

abbrev pub pack_from : Held → List ℕ → Ran Held
pack_from = run pack_byte (λ h. h.bad)

-- at the input's end: what is held is a line
abbrev pub pack_last : Held → Ran Held
pack_last h = pack_lines h (last_line h.rest)

-- room for a job
abbrev pub job_room : ℕ
job_room = 50

-- ---- what a function that is fed some bytes does: some of the bytes in `after` are held, and what is said was put into `out`
abbrev pub state_of : List ℕ → Progress → Held
state_of after r = record { rest = take r.held after; bad = r.bad }

abbrev pub Packs : Ran Held → List ℕ → List ℕ → ℕ → List ℕ → Progress → Type 0
Packs p after before at out r = Fed p (state_of after r) before at out r.used r.lines
