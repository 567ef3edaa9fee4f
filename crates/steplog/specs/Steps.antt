-- The step log (document 02, 2026-01). Definitions only.
use Rattle.std.specs.Prelude.{◌≡◌, ℕ, ◌+◌, ◌-◌, ◌%◌, ◌^◌, ◌<◌, ◌≤◌, cond, List, [], ◌∷◌, nat_lt}
use Rattle.std.specs.Prelude.{Option, Some, None, Result, Ok, Err}
use Rattle.refusals.specs.declared.Refusal.{Refusal}
use Rattle.refusals.specs.declared.Refusal.TheVariants.{SumTooLarge}
use Rattle.refusals.specs.Numbers.{code_of}
use Rattle.steplog.specs.declared.Log.{Log}

-- "each advance is the later counter less the earlier, modulo 65,536", of 16-bit counters
unfoldable pub advance_of : ℕ → ℕ → ℕ
advance_of earlier later = (later + 65536 - earlier) % 65536

-- "the steps between successive log readings", from the reading before on
unfoldable pub advances_from : ℕ → List ℕ → ℕ
advances_from earlier [] = 0
advances_from earlier (later ∷ rest) = advance_of earlier later + advances_from later rest

-- "none or one adds 0"
unfoldable pub advances : List ℕ → ℕ
advances [] = 0
advances (first ∷ rest) = advances_from first rest

-- "A sum that would pass 2^64 - 1 is refused"
unfoldable pub added : ℕ → ℕ → Result ℕ Refusal
added total more = cond (nat_lt (total + more) (2 ^ 64)) (Ok (total + more)) (Err SumTooLarge)

unfoldable pub steps_of : ℕ → List ℕ → Result ℕ Refusal
steps_of total readings = added total (advances readings)

-- ---- the log as its readings come: the sum so far, and the last reading once there is one
-- a sum that was refused stays so
unfoldable pub added_to : Result ℕ Refusal → ℕ → Result ℕ Refusal
added_to (Ok sum) more = added sum more
added_to (Err refusal) more = Err refusal

unfoldable pub log_from : ℕ → Log
log_from total = record { sum = Ok total; last = None }

-- the first reading adds nothing
unfoldable pub sum_after : Result ℕ Refusal → Option ℕ → ℕ → Result ℕ Refusal
sum_after sum (Some last) reading = added_to sum (advance_of last reading)
sum_after sum None reading = sum

unfoldable pub log_after : Log → ℕ → Log
log_after l reading = record { sum = sum_after l.sum l.last reading; last = Some reading }

unfoldable pub log_all : Log → List ℕ → Log
log_all l [] = l
log_all l (reading ∷ rest) = log_all (log_after l reading) rest

-- "and the total stays": what a stored total is afterwards, and what it was
unfoldable pub kept_total : Result ℕ Refusal → ℕ → ℕ
kept_total (Ok sum) before = sum
kept_total (Err refusal) before = before

-- what is said beside the total: that it was added to, or why not
unfoldable pub done_of : Result ℕ Refusal → Result (Unit {0}) Refusal
done_of (Ok sum) = Ok tt
done_of (Err refusal) = Err refusal

-- what C is told of it
abbrev pub steps_number : Result ℕ Refusal → ℕ
steps_number steps = code_of (done_of steps)

-- ---- "That is right when fewer than 65,536 steps lie between readings": the counts that a counter without end would show
pub data Rising : ℕ → List ℕ → Type 0 where
  ends : {c : ℕ} → Rising c []
  goes : {c d : ℕ} {ds : List ℕ} → c ≤ d → d < c + 65536 → Rising d ds → Rising c (d ∷ ds)

-- what the 16-bit counter shows of them
unfoldable pub shown : List ℕ → List ℕ
shown [] = []
shown (c ∷ cs) = c % 65536 ∷ shown cs

unfoldable pub last_of : ℕ → List ℕ → ℕ
last_of c [] = c
last_of c (d ∷ ds) = last_of d ds

-- under that premise the steps taken, from the first count to the last, are what is added
pub record StepsTaken (total : ℕ) (readings : List ℕ) (r : Result ℕ Refusal) : Type 0 where
  pub taken : (c : ℕ) (cs : List ℕ) → Rising c cs → readings ≡ shown (c ∷ cs) → r ≡ added total (last_of c cs - c)
