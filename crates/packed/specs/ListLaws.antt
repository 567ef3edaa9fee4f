-- Whole work lists (document 02, 2026-03): "Writing then reading gives the jobs back; reading then writing gives the bytes
-- back". A read is a function of the bytes and the place and stores nothing, so a refused one leaves its place. Every reading
-- ends: `read_all` allows a job for each byte, and by `bytes_back` that is never too few. Assumes nothing.
use Rattle.refusals.specs.declared.Refusal.{Refusal}
use Rattle.std.specs.Prelude.{Some, None, Result, Ok, Err}
use Rattle.std.specs.Prelude.{ℕ, zero, suc, ◌+◌, ◌-◌, ◌≤◌, ◌<◌, ◌≡◌, refl, Bool, true, false, cond, List, [], ◌∷◌, ◌++◌, ltb, length, drop}
use Rattle.std.proofs.Common.{sym, ap, subst, ◌∙◌, arith, le-ltb, ltb-false, length-append, length-drop, drop_of_length-le}
use Rattle.packed.specs.Jobs.{job_bytes, job_length, list_bytes}
use Rattle.packed.specs.Reading.{job_at, Read, found, read_at, Jobs, jobs, stopped, with_job, read_on, read_from, read_all}
use Rattle.packed.specs.LengthLaws.{job_some}
use Rattle.packed_number.specs.NumberLaws.{Bytes}
use Rattle.packed.specs.JobLaws.{Proper, after, read_back, Is, read_is}
use Rattle.packed.specs.declared.jobs.Job.{Job}
use Rattle.packed.specs.declared.read.Got.{Got}

abbrev pub Propers : List Job → Type 0
Propers [] = Unit {0}
Propers (j ∷ js) = Proper j × Propers js

-- ---- writing, then reading
none_left : (l : List ℕ) (at : ℕ) → length l ≤ at → read_at l at ≡ Ok None
unfolding read_at
none_left l at h = rw (le-ltb at (length l) h)

rest : (l : List ℕ) (at : ℕ) (j : Job) (r : List ℕ) → drop at l ≡ job_bytes j ++ r → drop (at + job_length j) l ≡ r
unfolding job_length
rest l at j r e = after l at (job_bytes j) r e

from_back : (js : List Job) (most : ℕ) (l : List ℕ) (at : ℕ) → Propers js → drop at l ≡ list_bytes js → length js < most
    → read_from most l at ≡ jobs js
unfolding read_from read_on with_job list_bytes
from_back js zero l at p e h = absurd (omega arith)
from_back [] (suc most) l at p e h = rw (none_left l at (omega (arith, ap length e, length-drop at l)))
from_back (j ∷ js) (suc most) l at p e h =
    rw (
      read_back l j p.0 at (list_bytes js) e,
      from_back js most l (at + job_length j) p.1 (rest l at j (list_bytes js) e) (omega arith),
    )

jobs_most : (js : List Job) → length js ≤ length (list_bytes js)
unfolding list_bytes job_length
jobs_most [] = omega arith
jobs_most (j ∷ js) = rw length-append (omega (arith, job_some j, jobs_most js))

pub jobs_back : (js : List Job) → Propers js → read_all (list_bytes js) ≡ jobs js
unfolding read_all
jobs_back js p = from_back js (suc (length (list_bytes js))) (list_bytes js) 0 p refl (omega (arith, jobs_most js))

-- ---- reading, then writing
-- nothing is said to be left only at the end
not_nothing : (r : Result Got Refusal) → found r ≡ Ok None → ⊥
unfolding found
not_nothing (Ok got) e = let z : ◌≡◌ {A = ℕ} 0 1 = cc in omega arith
not_nothing (Err r) e = let z : ◌≡◌ {A = ℕ} 0 1 = cc in omega arith

pub nothing_left : (l : List ℕ) (at : ℕ) → read_at l at ≡ Ok None → length l ≤ at
unfolding read_at
nothing_left l at e = go (ltb at (length l)) refl e
  where
    go : (t : Bool) → ltb at (length l) ≡ t → cond t (found (job_at l at)) (Ok None) ≡ Ok None → length l ≤ at
    go true t e = absurd (not_nothing (job_at l at) e)
    go false t e = ltb-false at (length l) t

-- the jobs are proper, and their bytes are those from the place on
pub record Were (l : List ℕ) (at : ℕ) (js : List Job) : Type 0 where
  pub proper : Propers js
  pub bytes : drop at l ≡ list_bytes js

bytes_on :
    (l : List ℕ) (at most : ℕ) (r : Read) (js : List Job) → Bytes l → read_at l at ≡ r → length l - at < suc most
    → ((next : ℕ) (ks : List Job) → length l - next < most → read_from most l next ≡ jobs ks → Were l next ks)
    → read_on at r (read_from most l) ≡ jobs js → Were l at js
unfolding read_on list_bytes with_job job_length
bytes_on l at most (Ok (Some got)) js b e h more f = go (read_from most l got.next) refl f
  where
    r : (at < length l) × Is l at got
    r = read_is l at b got e

    go : (w : Jobs) → read_from most l got.next ≡ w → with_job got.job w ≡ jobs js → Were l at js
    go (jobs ks) p q =
        let z : got.job ∷ ks ≡ js = cc in
        let m = more got.next ks (omega (arith, r.0, r.1.stands.place, job_some got.job)) p in
        let made : Were l at (got.job ∷ ks) =
        record {
          proper = (r.1.proper, m.proper);
          bytes = r.1.stands.bytes
              ∙ ap (λ (t : List ℕ). job_bytes got.job ++ t) m.bytes;
        } in
        subst (λ (x : List Job). Were l at x) z made
    go (stopped ks n m) p q = let z : ◌≡◌ {A = ℕ} 0 1 = cc in absurd (omega arith)
bytes_on l at most (Ok None) js b e h more f =
    let z : [] ≡ js = cc in
    let made : Were l at [] = record { proper = tt; bytes = drop_of_length-le l {i = at} (nothing_left l at e) } in
    subst (λ (x : List Job). Were l at x) z made
bytes_on l at most (Err n) js b e h more f = let z : ◌≡◌ {A = ℕ} 0 1 = cc in absurd (omega arith)

from_bytes : (most : ℕ) (l : List ℕ) (at : ℕ) (js : List Job) → Bytes l → length l - at < most → read_from most l at ≡ jobs js
    → Were l at js
unfolding read_from
from_bytes zero l at js b h e = absurd (omega arith)
from_bytes (suc most) l at js b h e = bytes_on l at most (read_at l at) js b refl h
    (λ next ks k f. from_bytes most l next ks b k f) e

pub bytes_back : (l : List ℕ) (js : List Job) → Bytes l → read_all l ≡ jobs js → Propers js × (list_bytes js ≡ l)
unfolding read_all
bytes_back l js b e = let w = from_bytes (suc (length l)) l 0 js b (omega arith) e in (w.proper, sym w.bytes)
