-- A packed work list to lines, a byte after the other. Definitions only.
use Rattle.std.specs.Prelude.{ℕ, ◌-◌, ◌≤◌, ◌<◌, Bool, true, false, cond, List, Option, Some, None, Ok, Err, [], ◌∷◌, ◌++◌, eqb, length, take, drop}
use Rattle.packed.specs.Jobs.{list_bytes}
use Rattle.packed.specs.Reading.{Read, read_at, Jobs, jobs, stopped}
use Rattle.packed.specs.declared.jobs.Job.{Job}
use Rattle.refusals.specs.declared.Refusal.{Refusal}
use Rattle.refusals.specs.declared.Refusal.TheVariants.{ListCut}
use Rattle.std.specs.Option.{is_some}
use Rattle.writing.specs.Fed.{Ran, quiet, Fed, run}
use Rattle.unpack_stream.specs.Text.{job_text}
use Rattle.unpack_stream.specs.declared.stream.Progress.{Progress}
use Rattle.unpack_stream.specs.declared.stream.Turned.{Turned}

-- the state: what is held of a job that is not whole, and the refusal that ended it
pub record Held : Type 0 where
  pub rest : List ℕ
  pub stop : Option Refusal

-- whether a refusal ended it
abbrev pub ended : Held → Bool
ended h = is_some h.stop

-- no refusal so far
abbrev pub holding : List ℕ → Held
holding held = record { rest = held; stop = None }

abbrev pub refused : Refusal → Held
refused n = record { rest = []; stop = Some n }

-- ---- what is right: the list's jobs in order, a line each, and a refusal. Counted are the bytes of the jobs,
-- which is the place of a refusal
unfoldable pub lines_of : List Job → List ℕ
lines_of [] = []
lines_of (j ∷ js) = job_text j ++ lines_of js

unfoldable pub unpack_of : Jobs → Ran Held
unpack_of (jobs js) = record { said = lines_of js; count = length (list_bytes js); left = holding [] }
unpack_of (stopped js place n) = record { said = lines_of js; count = place; left = refused n }

-- ---- how it is done
-- so many bytes are held of a job at most: no job is longer
abbrev pub held_length : ℕ
held_length = 64

-- a list that stops inside a job
unfoldable pub is_cut : Refusal → Bool
is_cut ListCut = true
is_cut r = false

-- after a try at what is held: its line; or it is only cut so far, and more is waited for; or it is refused
unfoldable pub tried_as : List ℕ → Read → Ran Held
tried_as held (Ok (Some got)) = record { said = job_text got.job; count = length held; left = holding [] }
tried_as held (Ok None) = quiet (holding held)
tried_as held (Err r) = cond (is_cut r) (quiet (holding held)) (quiet (refused r))

abbrev pub try_of : List ℕ → Ran Held
try_of held = tried_as held (read_at held 0)

-- a byte more
unfoldable pub unpack_byte : Held → ℕ → Ran Held
unpack_byte h b = try_of (take held_length (h.rest ++ b ∷ []))

abbrev pub unpack_from : Held → List ℕ → Ran Held
unpack_from = run unpack_byte ended

-- what is read ahead: the job at a place, where none is held
unfoldable pub ahead_at : List ℕ → ℕ → ℕ → Read
ahead_at bytes i held = cond (eqb held 0) (read_at bytes i) (Ok None)

-- at the input's end: what is held is a job that was cut
unfoldable pub left_over : ℕ → Option Refusal
left_over held = cond (eqb held 0) None (Some ListCut)

unfoldable pub last_of : Held → List ℕ → Held
last_of h [] = h
last_of h (b ∷ l) = refused ListCut

unfoldable pub unpack_last : Held → Ran Held
unpack_last h = quiet (cond (ended h) h (last_of h h.rest))

-- ---- what a function that is fed some bytes does: some of the bytes in `after` are held, and what is said was put into `out`
abbrev pub state_of : List ℕ → Progress → Held
state_of after r = record { rest = take r.held after; stop = r.stop }

abbrev pub Unpacks : Ran Held → List ℕ → List ℕ → ℕ → List ℕ → Progress → Type 0
Unpacks p after before at out r = Fed p (state_of after r) before at out r.used r.taken

-- a turn takes the bytes from a place to a later one
pub record Turns (bytes : List ℕ) (i : ℕ) (held after before : List ℕ) (at : ℕ) (out : List ℕ) (r : Turned) : Type 0 where
  pub later : i < r.next
  pub inside : r.next ≤ length bytes
  pub few : r.fed.held ≤ held_length
  pub fed : Unpacks (unpack_from (holding held) (take (r.next - i) (drop i bytes))) after before at out r.fed
