-- What is read at a place hangs only on the bytes from there on: read from the beginning of those, only the places differ.
-- Assumes nothing.
use Rattle.refusals.specs.declared.Refusal.{Refusal}
use Rattle.refusals.specs.declared.Refusal.TheVariants.{NumberBad, UnknownFunction}
use Rattle.std.specs.Prelude.{Some, None, Result, Ok, Err}
use Rattle.std.specs.Prelude.{ℕ, zero, suc, ◌+◌, ◌-◌, ◌*◌, ◌≡◌, refl, Bool, true, false, cond, List, [], ◌∷◌, eqb, ltb, length, drop}
use Rattle.std.proofs.Common.{ap, ◌∙◌, ⊎_elim, add_assoc, arith, lt-ltb, le-ltb, length-drop, drop-drop}
use Rattle.algebra.specs.Order.{lt_or_le}
use Rattle.packed_number.specs.Numbers.{whole, last_group, number_from, number_at}
use Rattle.packed.specs.Jobs.{arity_of}
use Rattle.packed.specs.Reading.{
  begun,
  function_read,
  argument_read,
  argument_at,
  argument_after,
  job_at,
  Read,
  found,
  read_at,
  Jobs,
  jobs,
  stopped,
  with_job,
  read_on,
  read_from,
}
use Rattle.packed_number.specs.declared.Number.{Number}
use Rattle.packed.specs.declared.jobs.Job.{Job}
use Rattle.packed.specs.declared.read.Got.{Got}

-- ---- the same, k places later
number_later : ℕ → Result Number Refusal → Result Number Refusal
number_later k (Ok n) = whole n.value (k + n.next)
number_later k (Err n) = Err n

abbrev pub got_later : ℕ → Got → Got
got_later k g = record { job = g.job; next = k + g.next }

unfoldable job_read_later : ℕ → Result Got Refusal → Result Got Refusal
job_read_later k (Ok g) = Ok (got_later k g)
job_read_later k (Err r) = Err r

unfoldable pub read_later : ℕ → Read → Read
read_later k (Ok (Some g)) = Ok (Some (got_later k g))
read_later k (Ok None) = Ok None
read_later k (Err n) = Err n

unfoldable pub jobs_later : ℕ → Jobs → Jobs
jobs_later k (jobs js) = jobs js
jobs_later k (stopped js place n) = stopped js (k + place) n

-- ---- a number
last_later : (w v at k b : ℕ) → last_group w v (k + at + 1) b ≡ number_later k (last_group w v (at + 1) b)
unfolding last_group number_later
last_later w v at k b = go (eqb b 0) (ltb 1 w)
  where
    go : (t u : Bool) → cond t (cond u (Err NumberBad) (whole v (k + at + 1))) (whole (v + b * w) (k + at + 1))
        ≡ number_later k (cond t (cond u (Err NumberBad) (whole v (at + 1))) (whole (v + b * w) (at + 1)))
    go true true = refl
    go true false = rw add_assoc
    go false u = rw add_assoc

from_later : (left w v at k : ℕ) (xs : List ℕ) → number_from left w v (k + at) xs ≡ number_later k (number_from left w v at xs)
unfolding number_from number_later
from_later zero w v at k [] = refl
from_later zero w v at k (b ∷ xs) = go (eqb b 1)
  where
    go : (t : Bool) → cond t (whole (v + w) (k + at + 1)) (Err NumberBad)
        ≡ number_later k (cond t (whole (v + w) (at + 1)) (Err NumberBad))
    go true = rw add_assoc
    go false = refl
from_later (suc left) w v at k [] = refl
from_later (suc left) w v at k (b ∷ xs) =
    go (ltb b 128) (from_later left (w * 128) (v + (b - 128) * w) (at + 1) k xs)
  where
    go :
        (t : Bool) → (let n : ℕ → Result Number Refusal = λ at. number_from left (w * 128) (v + (b - 128) * w) at xs in
        n (k + (at + 1)) ≡ number_later k (n (at + 1))
        → cond t (last_group w v (k + at + 1) b) (n (k + at + 1)) ≡ number_later k (cond t (last_group w v (at + 1) b) (n (at + 1))))
    go true e = last_later w v at k b
    go false e = rw add_assoc e

number_later_lem : (l : List ℕ) (k at : ℕ) → number_at l (k + at) ≡ number_later k (number_at (drop k l) at)
unfolding number_at
number_later_lem l k at = rw (drop-drop at k l) (from_later 9 1 0 at k (drop (k + at) l))

-- ---- a job
function_later : (k : ℕ) (n : Result Number Refusal) → function_read (number_later k n) ≡ job_read_later k (function_read n)
unfolding function_read number_later job_read_later begun
function_later k (Ok n) = go (eqb (arity_of n.value) 0)
  where
    go : (t : Bool) → cond t (Err UnknownFunction) (Ok (begun n.value (k + n.next)))
        ≡ job_read_later k (cond t (Err UnknownFunction) (Ok (begun n.value n.next)))
    go true = refl
    go false = refl
function_later k (Err n) = refl

value_later : (k : ℕ) (j : Job) (i : ℕ) (n : Result Number Refusal)
    → argument_read j i (number_later k n) ≡ job_read_later k (argument_read j i n)
unfolding argument_read number_later job_read_later
value_later k j i (Ok n) = refl
value_later k j i (Err n) = refl

argument_later : (l : List ℕ) (k : ℕ) (g : Got) (i : ℕ)
    → argument_at l (got_later k g) i ≡ job_read_later k (argument_at (drop k l) g i)
unfolding argument_at job_read_later
argument_later l k g i = go (ltb i (arity_of g.job.function))
  where
    go : (t : Bool) → cond t (argument_read g.job i (number_at l (k + g.next))) (Ok (got_later k g))
        ≡ job_read_later k (cond t (argument_read g.job i (number_at (drop k l) g.next)) (Ok g))
    go true = rw (number_later_lem l k g.next) (value_later k g.job i (number_at (drop k l) g.next))
    go false = refl

after_later : (l : List ℕ) (k : ℕ) (r : Result Got Refusal) (i : ℕ)
    → argument_after l (job_read_later k r) i ≡ job_read_later k (argument_after (drop k l) r i)
unfolding argument_after job_read_later
after_later l k (Ok g) i = argument_later l k g i
after_later l k (Err n) i = refl

job_later : (l : List ℕ) (k at : ℕ) → job_at l (k + at) ≡ job_read_later k (job_at (drop k l) at)
unfolding job_at
job_later l k at =
    rw (
      number_later_lem l k at,
      function_later k (number_at (drop k l) at),
      after_later l k _ 0,
      after_later l k _ 1,
      after_later l k _ 2,
      after_later l k _ 3,
    )

inside_later : (l : List ℕ) (k at : ℕ) → ltb (k + at) (length l) ≡ ltb at (length (drop k l))
inside_later l k at =
    let n = length-drop k l in
    ⊎_elim (λ h. rw (lt-ltb (k + at) (length l) h, lt-ltb at (length (drop k l)) (omega (arith, n))))
    (λ h. rw (le-ltb (k + at) (length l) h, le-ltb at (length (drop k l)) (omega (arith, n)))) (lt_or_le (k + at) (length l))

found_places : (k : ℕ) (r : Result Got Refusal) → found (job_read_later k r) ≡ read_later k (found r)
unfolding found job_read_later read_later
found_places k (Ok g) = refl
found_places k (Err r) = refl

pub read_later_lem : (l : List ℕ) (k at : ℕ) → read_at l (k + at) ≡ read_later k (read_at (drop k l) at)
unfolding read_at read_later
read_later_lem l k at =
    rw (inside_later l k at, job_later l k at, found_places k (job_at (drop k l) at))
    (go (ltb at (length (drop k l))))
  where
    go : (t : Bool) → cond t (read_later k (found (job_at (drop k l) at))) (Ok None)
        ≡ read_later k (cond t (found (job_at (drop k l) at)) (Ok None))
    go true = refl
    go false = refl

-- ---- a list
on_later :
    (k at : ℕ) (r : Read) (f g : ℕ → Jobs) → ((next : ℕ) → f (k + next) ≡ jobs_later k (g next))
    → read_on (k + at) (read_later k r) f ≡ jobs_later k (read_on at r g)
unfolding read_on read_later jobs_later with_job
on_later k at (Ok (Some got)) f g h = ap (with_job got.job) (h got.next) ∙ with_later (g got.next)
  where
    with_later : (js : Jobs) → with_job got.job (jobs_later k js) ≡ jobs_later k (with_job got.job js)
    with_later (jobs js) = refl
    with_later (stopped js place n) = refl
on_later k at (Ok None) f g h = refl
on_later k at (Err n) f g h = refl

-- THE LAW
pub list_later : (most : ℕ) (l : List ℕ) (k at : ℕ) → read_from most l (k + at) ≡ jobs_later k (read_from most (drop k l) at)
unfolding read_from jobs_later
list_later zero l k at = refl
list_later (suc most) l k at =
    rw (read_later_lem l k at)
    (on_later k at (read_at (drop k l) at) (read_from most l) (read_from most (drop k l)) (λ n. list_later most l k n))
