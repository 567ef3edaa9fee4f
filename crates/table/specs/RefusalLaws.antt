-- A list's own refusals are 14, 15 and 16, so that 22 is never one of them. Assumes nothing.
use Rattle.std.specs.Prelude.{ℕ, zero, suc, ◌+◌, ◌-◌, ◌*◌, ◌≤◌, ◌≡◌, List, Some, None, Result, Ok, Err, [], ◌∷◌, eqb, ltb, length, drop}
use Rattle.std.proofs.Common.{subst, arith}
use Rattle.packed_number.specs.Numbers.{last_group, number_from, number_at}
use Rattle.packed.specs.Jobs.{arity_of}
use Rattle.packed.specs.Reading.{function_read, argument_read, argument_at, argument_after, job_at, Read, found, read_at, Jobs, jobs, stopped, with_job, read_on, read_from, read_all}
use Rattle.packed_number.specs.declared.Number.{Number}
use Rattle.packed.specs.declared.read.Got.{Got}
use Rattle.packed.specs.declared.jobs.Job.{Job}
use Rattle.refusals.specs.Numbers.{refusal_number}
use Rattle.refusals.specs.declared.Refusal.{Refusal}
use Rattle.refusals.specs.declared.Refusal.TheVariants.{ListCut, NumberBad, UnknownFunction}
use Rattle.carlson.proofs.Only.{chosen}

-- one of the three, or none
abbrev Few : Refusal → Type 0
Few r = (14 ≤ refusal_number r) × (refusal_number r ≤ 16)

abbrev FewNumber : Result Number Refusal → Type 0
FewNumber (Ok n) = Unit {0}
FewNumber (Err r) = Few r

abbrev FewGot : Result Got Refusal → Type 0
FewGot (Ok got) = Unit {0}
FewGot (Err r) = Few r

abbrev FewRead : Read → Type 0
FewRead (Ok found) = Unit {0}
FewRead (Err r) = Few r

abbrev FewJobs : Jobs → Type 0
FewJobs (jobs js) = Unit {0}
FewJobs (stopped js place r) = Few r

cut : Few ListCut
cut = (omega arith, omega arith)

bad : Few NumberBad
bad = (omega arith, omega arith)

unknown : Few UnknownFunction
unknown = (omega arith, omega arith)

last_few : (w v next b : ℕ) → FewNumber (last_group w v next b)
unfolding last_group
last_few w v next b = chosen FewNumber (eqb b 0) (chosen FewNumber (ltb 1 w) bad tt) tt

number_few : (left w v at : ℕ) (bs : List ℕ) → FewNumber (number_from left w v at bs)
unfolding number_from
number_few zero w v at [] = cut
number_few zero w v at (b ∷ bs) = chosen FewNumber (eqb b 1) tt bad
number_few (suc left) w v at [] = cut
number_few (suc left) w v at (b ∷ bs) =
    chosen FewNumber (ltb b 128) (last_few w v (at + 1) b) (number_few left (w * 128) (v + (b - 128) * w) (at + 1) bs)

number_at_few : (l : List ℕ) (at : ℕ) → FewNumber (number_at l at)
unfolding number_at
number_at_few l at = number_few 9 1 0 at (drop at l)

function_few : (n : Result Number Refusal) → FewNumber n → FewGot (function_read n)
unfolding function_read
function_few (Ok n) h = chosen FewGot (eqb (arity_of n.value) 0) unknown tt
function_few (Err r) h = h

argument_few : (l : List ℕ) (r : Result Got Refusal) (k : ℕ) → FewGot r → FewGot (argument_after l r k)
unfolding argument_after argument_at
argument_few l (Ok got) k h =
    chosen FewGot (ltb k (arity_of got.job.function)) (value (number_at l got.next) (number_at_few l got.next)) tt
  where
    value : (n : Result Number Refusal) → FewNumber n → FewGot (argument_read got.job k n)
    value (Ok n) h = unfold argument_read in tt
    value (Err r) h = unfold argument_read in h
argument_few l (Err r) k h = h

found_few : (r : Result Got Refusal) → FewGot r → FewRead (found r)
unfolding found
found_few (Ok got) h = tt
found_few (Err r) h = h

read_few : (l : List ℕ) (at : ℕ) → FewRead (read_at l at)
unfolding read_at job_at
read_few l at =
    chosen FewRead (ltb at (length l))
    (found_few _ (argument_few l _ 3 (argument_few l _ 2 (argument_few l _ 1 (argument_few l _ 0
    (function_few (number_at l at) (number_at_few l at))))))) tt

list_few : (most : ℕ) (l : List ℕ) (at : ℕ) → FewJobs (read_from most l at)
unfolding read_from
list_few zero l at = tt
list_few (suc most) l at = go (read_at l at) (read_few l at) (λ next. list_few most l next)
  where
    kept : (j : Job) (r : Jobs) → FewJobs r → FewJobs (with_job j r)
    kept j (jobs js) h = unfold with_job in tt
    kept j (stopped js place n) h = unfold with_job in h

    go : (r : Read) → FewRead r → ((next : ℕ) → FewJobs (read_from most l next)) → FewJobs (read_on at r (read_from most l))
    go (Ok (Some got)) h rest = unfold read_on in kept got.job (read_from most l got.next) (rest got.next)
    go (Ok None) h rest = unfold read_on in tt
    go (Err r) h rest = unfold read_on in h

-- THE LAW
pub list_numbers : (l : List ℕ) {js : List Job} {place : ℕ} {r : Refusal} → read_all l ≡ stopped js place r
    → (14 ≤ refusal_number r) × (refusal_number r ≤ 16)
unfolding read_all
list_numbers l e = subst FewJobs e (list_few (suc (length l)) l 0)
