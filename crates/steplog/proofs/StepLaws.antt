-- The sum of the advances is the number of steps taken, and how a loop over the readings comes to it. Assumes nothing.
use Rattle.std.specs.Prelude.{◌≡◌, ℕ, ◌+◌, ◌-◌, ◌%◌, ◌^◌, ◌<◌, ◌≤◌, List, [], ◌∷◌, length, drop, slice_index, Some, Result, Ok}
use Rattle.std.specs.Prelude.{Err, refl}
use Rattle.std.proofs.Common.{sym, ap, ◌∙◌, inl, inr, add-one, add_assoc, add-zero, arith, lt-ltb, le-ltb, drop_of_length-le}
use Rattle.std.proofs.Common.{drop-cons}
use Rattle.algebra.specs.Order.{lt_or_le}
use Rattle.steplog.specs.Steps.{
  advance_of,
  advances_from,
  advances,
  added,
  added_to,
  log_from,
  log_after,
  sum_after,
  log_all,
  steps_of,
  Rising,
  ends,
  goes,
  shown,
  last_of,
  StepsTaken,
}
use Rattle.steplog.specs.declared.Log.{Log}
use Rattle.refusals.specs.declared.Refusal.{Refusal}

-- ---- the steps taken
-- between two counts: fewer than 65,536, so that the counters tell them
pub advance_counted : (c d : ℕ) → c ≤ d → d < c + 65536 → advance_of (c % 65536) (d % 65536) ≡ d - c
unfolding advance_of
advance_counted c d h k = omega arith

pub last_above : (c : ℕ) (cs : List ℕ) → Rising c cs → c ≤ last_of c cs
unfolding last_of
last_above c [] ends = omega arith
last_above c (d ∷ ds) (goes h k r) = omega (arith, last_above d ds r)

from_counted : (c : ℕ) (cs : List ℕ) → Rising c cs → advances_from (c % 65536) (shown cs) ≡ last_of c cs - c
unfolding advances_from shown last_of
from_counted c [] ends = omega arith
from_counted c (d ∷ ds) (goes h k r) = rw (advance_counted c d h k, from_counted d ds r) (omega (arith, last_above d ds r))

pub advances_counted : (c : ℕ) (cs : List ℕ) → Rising c cs → advances (shown (c ∷ cs)) ≡ last_of c cs - c
unfolding advances shown
advances_counted c cs r = from_counted c cs r

pub steps_taken : (total : ℕ) (readings : List ℕ) (r : Result ℕ Refusal) → r ≡ steps_of total readings
    → StepsTaken total readings r
unfolding steps_of
steps_taken total readings r e = record { taken = λ c cs up s. e ∙ rw (s, advances_counted c cs up) }

-- ---- the log comes to the same sum, whatever it is given
added_twice : (t a b : ℕ) → added_to (added t a) b ≡ added t (a + b)
unfolding added_to added
added_twice t a b = elim (lt_or_le (t + a) (2 ^ 64)) [
  | inl l ↦ rw (lt-ltb (t + a) (2 ^ 64) l, add_assoc t a b)
  | inr l ↦ rw (le-ltb (t + a) (2 ^ 64) l, le-ltb (t + (a + b)) (2 ^ 64) (omega arith))
]

more_twice : (s : Result ℕ Refusal) (a b : ℕ) → added_to (added_to s a) b ≡ added_to s (a + b)
unfolding added_to
more_twice (Ok t) a b = added_twice t a b
more_twice (Err r) a b = refl

log_more : (rs : List ℕ) (sum : Result ℕ Refusal) (last : ℕ) → added_to sum 0 ≡ sum
    → (log_all (record { sum = sum; last = Some last }) rs).sum ≡ added_to sum (advances_from last rs)
unfolding log_all advances_from log_after sum_after
log_more [] sum last h = sym h
log_more (r ∷ rs) sum last h =
    let a = advance_of last r in
    let kept : added_to (added_to sum a) 0 ≡ added_to sum a = more_twice sum a 0
    ∙ ap (λ (k : ℕ). added_to sum k) (add-zero a) in
    log_more rs (added_to sum a) r kept ∙ more_twice sum a (advances_from r rs)

none : (total : ℕ) → total < 2 ^ 64 → added total 0 ≡ Ok total
unfolding added
none total h = rw (add-zero, lt-ltb total (2 ^ 64) h)

pub log_steps : (rs : List ℕ) (total : ℕ) → total < 2 ^ 64 → (log_all (log_from total) rs).sum ≡ steps_of total rs
unfolding log_all log_from log_after sum_after steps_of advances added_to
log_steps [] total h = sym (none total h)
log_steps (r ∷ rs) total h = log_more rs (Ok total) r (none total h)

-- what is left of a loop over the readings
pub log_next : (l : List ℕ) (log : Log) (i : ℕ) → i < length l
    → log_all log (drop i l) ≡ log_all (log_after log (slice_index l i)) (drop (i + 1) l)
unfolding log_all
log_next l log i h = rw (drop-cons l i 0 h, add-one)

pub log_last : (l : List ℕ) (log : Log) (i : ℕ) → length l ≤ i → log_all log (drop i l) ≡ log
unfolding log_all
log_last l log i h = rw (drop_of_length-le l {i = i} h)
