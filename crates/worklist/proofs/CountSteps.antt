-- The count of a list, job by job. Assumes nothing.
use Prim.Native.Nat.{ℕ, suc, ◌+◌, ◌≤◌}
use mathlib.Core.Path.{◌≡◌, refl, sym, ap, ◌∙◌}
use mathlib.Core.List.{List}
use native.Mathlib.Nat.{add-zero}
use native.Mathlib.Omega.{arith}
use lib.ListN.{length}
use Rattle.packed_number.specs.NumberLaws.{Bytes}
use Rattle.packed.specs.Reading.{Jobs, jobs, stopped, with_job, read_at, read_all}
use Rattle.packed.specs.ListLaws.{nothing_left}
use Rattle.packed.specs.RestLaws.{found_later, rest_at, rest_all, rest_found, rest_refused, rest_none}
use Rattle.packed.specs.declared.jobs.Job.{Job}
use Rattle.packed.specs.declared.read.Got.{Got}
use Rattle.worklist.specs.Count.{count_of}
use Rattle.refusals.specs.declared.Refusal.{Refusal}
use Rattle.std.specs.Prelude.{Option, Some, None, Ok, Err}

count_more : (n : ℕ) (j : Job) (r : Jobs) → count_of n (with_job j r) ≡ count_of (n + 1) r
unfolding count_of with_job
count_more n j (jobs js) = let e : n + suc (length js) ≡ n + 1 + length js = omega arith in rw e
count_more n j (stopped js place k) = refl

-- after n jobs, at a place in the list: what is left gives what all of it gives
pub record Counting (list : List ℕ) (n place : ℕ) : Type 0 where
  pub inside : place ≤ length list
  pub few : n ≤ place
  pub rest : count_of n (rest_at list place) ≡ count_of 0 (read_all list)

pub counting_begins : {list : List ℕ} → Counting list 0 0
counting_begins {list} = record { inside = omega arith; few = omega arith; rest = ap (count_of 0) (rest_all list) }

module _ {list : List ℕ} {n place : ℕ} (c : Counting list n place) where
  pub counting_more : {got : Got} → Bytes list → read_at list place ≡ Ok (Some got) → Counting list (n + 1) got.next
  counting_more {got} b e =
      let later = found_later list place got b e in
      record {
        inside = later.1;
        few = omega (arith, later.0, c.few);
        rest =
            sym (count_more n got.job (rest_at list got.next)) ∙ ap (count_of n) (sym (rest_found list place got b e))
            ∙ c.rest;
      }

  pub counting_refused : {k : Refusal} → read_at list place ≡ Err k → Err k ≡ count_of 0 (read_all list)
  unfolding count_of
  counting_refused e = sym (ap (count_of n) (rest_refused list place e)) ∙ c.rest

  pub counting_ended : (o : Option Got) → read_at list place ≡ Ok o → ((got : Got) → o ≡ Some got → ⊥)
      → Ok n ≡ count_of 0 (read_all list)
  unfolding count_of
  counting_ended (Some got) e none = absurd (none got refl)
  counting_ended None e none =
      sym (ap (count_of n) (rest_none list place (nothing_left list place e)) ∙ ap (λ (m : ℕ). Ok m) (add-zero n)) ∙ c.rest
