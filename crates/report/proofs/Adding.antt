-- A list's answers added job by job. Assumes nothing.
use Prim.Native.Nat.{ℕ, ◌≤◌}
use mathlib.Core.Path.{◌≡◌, refl, sym, ap, ◌∙◌}
use mathlib.Core.List.{List, ◌∷◌}
use native.Mathlib.Omega.{arith}
use lib.ListN.{length}
use Rattle.packed_number.specs.NumberLaws.{Bytes}
use Rattle.packed.specs.Reading.{Jobs, jobs, stopped, with_job, Read, read_at, read_all}
use Rattle.packed.specs.ListLaws.{nothing_left}
use Rattle.packed.specs.RestLaws.{found_later, rest_at, rest_all, rest_found, rest_refused, rest_none}
use Rattle.packed.specs.declared.jobs.Job.{Job}
use Rattle.packed.specs.declared.read.Got.{Got}
use Rattle.worklist.specs.Count.{count_of}
use Rattle.refusals.specs.declared.Refusal.{Refusal}
use Rattle.std.specs.Prelude.{true, false, Some, None, Result, Ok, Err}
use Rattle.std.specs.Result.{is_ok}
use Rattle.report_words.specs.Room.{list_judged}
use Rattle.report.specs.Report.{job_added, jobs_added, jobs_of, report_judged, list_after}

jobs_more : (j : Job) (r : Jobs) → jobs_of (with_job j r) ≡ j ∷ jobs_of r
unfolding jobs_of with_job
jobs_more j (jobs js) = refl
jobs_more j (stopped js place n) = refl

-- at a place in the list: what is left, added to these words, gives what all of it gives
pub record Adding (before list words : List ℕ) (place : ℕ) : Type 0 where
  pub inside : place ≤ length list
  pub as_long : length words ≡ length before
  pub rest : jobs_added words (jobs_of (rest_at list place)) ≡ jobs_added before (jobs_of (read_all list))

pub adding_begins : {before list : List ℕ} → Adding before list before 0
adding_begins {before} {list} = record {
  inside = omega arith;
  as_long = refl;
  rest = ap (λ (r : Jobs). jobs_added before (jobs_of r)) (rest_all list);
}

module _ {before list words : List ℕ} {place : ℕ} (a : Adding before list words place) where
  pub adding_more : {got : Got} {after : List ℕ} → Bytes list → read_at list place ≡ Ok (Some got)
      → after ≡ job_added words got.job
      → length after ≡ length words → Adding before list after got.next
  unfolding jobs_added
  adding_more {got} b e f h = record {
    inside = (found_later list place got b e).1;
    as_long = h ∙ a.as_long;
    rest =
        rw f
        (sym (ap (jobs_added words) (ap jobs_of (rest_found list place got b e) ∙ jobs_more got.job (rest_at list got.next)))
        ∙ a.rest);
  }

  pub adding_ended : (r : Read) → read_at list place ≡ r → ((got : Got) → r ≡ Ok (Some got) → ⊥)
      → words ≡ jobs_added before (jobs_of (read_all list))
  unfolding jobs_added jobs_of
  adding_ended (Ok (Some got)) e none = absurd (none got refl)
  adding_ended (Ok None) e none =
      sym (ap (λ (r : Jobs). jobs_added words (jobs_of r)) (rest_none list place (nothing_left list place e))) ∙ a.rest
  adding_ended (Err n) e none = sym (ap (λ (r : Jobs). jobs_added words (jobs_of r)) (rest_refused list place e)) ∙ a.rest

-- ---- the whole list
pub judged : (ws list : List ℕ) (c : Result ℕ Refusal) (r : Result (Unit {0}) Refusal) → c ≡ count_of 0 (read_all list)
    → r ≡ list_judged ws c → r ≡ report_judged ws list
unfolding report_judged
judged ws list c r e f = rw (← e) f

pub all_added : (ws list : List ℕ) → is_ok (report_judged ws list) ≡ true
    → jobs_added ws (jobs_of (read_all list)) ≡ list_after ws list
unfolding list_after
all_added ws list e = rw e

pub none_added : (ws list : List ℕ) → is_ok (report_judged ws list) ≡ false → ws ≡ list_after ws list
unfolding list_after
none_added ws list e = rw e
