-- The counts of Inside are those of the answers that they mirror: RJ. Assumes nothing.
use Rattle.std.specs.Prelude.{ℕ, zero, suc, ◌+◌, ◌≡◌, refl, true, false, Float, Ok, Err}
use Rattle.std.proofs.Common.{sym, ◌∙◌, true≢false, arith}
use Rattle.std.specs.Float.Ieee.{le, eq}
use Rattle.binary64.specs.Leaves.{maximum}
use Rattle.carlson.specs.Constants.{zero as +0}
use Rattle.carlson.specs.Answer.{closed_at, carried_at, taylor_at, reduction_at, both_ways}
use Rattle.carlson.proofs.Only.{chosen_both}
use Rattle.carlson_arguments.specs.Rescaling.{scale_of4}
use Rattle.carlson.proofs.Ways.{both_within}
use Rattle.carlson.specs.Answer.{Answer}
use Rattle.elliprc.specs.Few.{rc_within}
use Rattle.rf_duplicate.specs.Duplicate.{rf_cap}
use Rattle.elliprf.proofs.Few.{rf_within}
use Rattle.elliprd.specs.Rd.{over_scale, rd_unchecked}
use Rattle.rj_positive.specs.Duplicate.{rj_cap, rj_duplication}
use Rattle.rj_positive.specs.Positive.{well_apart, rj_all, rj_three, rj_two, rj_last, rj_pair, rj_cases, rj_positive}
use Rattle.rj_positive.specs.Few.{rj_duplicated}
use Rattle.rj_negative.specs.declared.reduction.Reduced.{Reduced}
use Rattle.rj_negative.specs.Reduction.{reduced_found, reduced_answer}
use Rattle.rj_negative.specs.Few.{reduced_rc_within}
use Rattle.rj_calls.specs.declared.plan.Plan.{Plan}
use Rattle.rj_calls.specs.declared.plan.Rescaled.{Rescaled}
use Rattle.rj_calls.specs.declared.plan.Plan.TheVariants.{Done, Rescale, Reduce}
use Rattle.rj_calls.specs.Run.{plan_of, rj_run}
use Rattle.rj_calls.specs.Plans.{Plans, plan_holds}
use Rattle.rj_calls.specs.Few.{run_most}
use Rattle.rounds.specs.Inside.{
  rd_inside,
  rj_last_inside,
  rj_pair_inside,
  rj_cases_inside,
  rj_positive_inside,
  rj_done_inside,
  reduced_inside,
  rj_run_inside,
}
use Rattle.rounds.specs.Exact.{Exactly, found, closed, none, more, over_scale_lem, rd_inside_lem}
use Rattle.rounds.specs.Sign.{still_above}

-- ---- p above zero, before any rescaling
abbrev Own : Answer → ℕ → Type 0
Own = Exactly rj_cap

by_rd : (x y z : Float) → Own (rd_unchecked x y z) (rd_inside x y z)
by_rd x y z = more (rd_unchecked x y z) (omega arith) (rd_inside_lem x y z)

module _ (p : Float) where
  last : (x y z : Float) → Own (rj_last x y z p) (rj_last_inside x y z p)
  unfolding rj_last rj_last_inside
  last x y z = chosen_both Own (eq z p) (by_rd x y z) (found (rj_duplication x y z p) (rj_duplicated x y z p).begun)

  two : (x y : Float) → Own (rj_two x y p) 0
  unfolding rj_two carried_at
  two x y = closed _ (both_within (rc_within x y) (rc_within x p))

  pair : (x y z : Float) → Own (rj_pair x y z p) (rj_pair_inside x y z p)
  unfolding rj_pair rj_pair_inside
  pair x y z =
      chosen_both Own (eq y p) (by_rd x y y)
      (chosen_both Own (well_apart p y) (chosen_both Own (le x (maximum y p)) (two x y) (last x y z)) (last x y z))

  cases : (x y z : Float) → Own (rj_cases x y z p) (rj_cases_inside x y z p)
  unfolding rj_cases rj_cases_inside
  cases x y z = chosen_both Own (eq y z) (pair x y z) (last x y z)

  three : (x : Float) → Own (rj_three x p) 0
  unfolding rj_three carried_at
  three x = closed _ (rc_within x p)

  positive : (x y z : Float) → Own (rj_positive x y z p) (rj_positive_inside x y z p)
  unfolding rj_positive rj_positive_inside rj_all closed_at
  positive x y z =
      chosen_both Own (eq x y)
      (chosen_both Own (eq x z)
      (chosen_both Own (eq x p) (none _ refl) (chosen_both Own (well_apart p x) (three x) (cases x y z))) (cases z y x))
      (cases x y z)

-- ---- what a call is done with at once
near : (x y z p v : Float) → le p +0 ≡ true → Own (Ok (taylor_at v)) (rj_done_inside x y z p)
unfolding rj_done_inside taylor_at
near x y z p v h = rw h (none _ refl)

own : (x y z p : Float) → le p +0 ≡ false → Own (rj_positive x y z p) (rj_done_inside x y z p)
unfolding rj_done_inside
own x y z p h = rw h (positive p x y z)

-- C and R of the arguments that it calls itself with
abbrev Planned : (Rescaled → Type 0) → (Reduced → Type 0) → Plan → ℕ → Type 0
Planned C R plan n = Plans (λ a. Own a n) C R plan

abbrev Anywhere : Plan → ℕ → Type 0
Anywhere = Planned (λ c. Unit {0}) (λ r. Unit {0})

anywhere : (x y z p : Float) → Anywhere (plan_of x y z p) (rj_done_inside x y z p)
anywhere x y z p =
    plan_holds (λ a. Own a (rj_done_inside x y z p)) (λ c. Unit {0}) (λ r. Unit {0}) p (λ h v. near x y z p v h) (λ x y z h. tt)
    (λ h x y z. tt) x y z (own x y z p)

-- with p above zero it is never reduced, and p stays above zero
abbrev Above : Plan → ℕ → Type 0
Above = Planned (λ c. le c.p +0 ≡ false) (λ r. ⊥)

above : (x y z p : Float) → le p +0 ≡ false → Above (plan_of x y z p) (rj_done_inside x y z p)
above x y z p k =
    plan_holds (λ a. Own a (rj_done_inside x y z p)) (λ c. le c.p +0 ≡ false) (λ r. ⊥) p (λ h v. near x y z p v h)
    (λ x y z r. still_above x y z p (scale_of4 x y z p) k r) (λ h x y z. absurd (true≢false (sym h ∙ k))) x y z (own x y z p)

-- ---- the runs: a reduction adds an RF
reduced : (m : ℕ) (r : Reduced) (a : Answer) (n : ℕ) → Exactly m a n
    → Exactly (m + rf_cap) (reduced_answer r a) (reduced_inside r a n)
unfolding reduced_answer reduced_found reduction_at both_ways reduced_inside
reduced m r (Ok f) n i = record {
  most = omega (arith, i.most, (rf_within r.x r.y r.z).begun);
  exact = omega (arith, i.exact, (reduced_rc_within r).begun);
}
reduced m r (Err k) n i = record { most = omega (arith, i.most); exact = tt }

run : (left : ℕ) (plan : Plan) (n : ℕ) → Anywhere plan n → Exactly (run_most left) (rj_run left plan) (rj_run_inside left plan n)
unfolding rj_run rj_run_inside
run zero plan n h = record { most = omega arith; exact = tt }
run (suc left) (Done a) n h = more a (omega arith) h
run (suc left) (Rescale c) n h =
    let plan = plan_of c.x c.y c.z c.p in
    let m = rj_done_inside c.x c.y c.z c.p in
    more (over_scale (rj_run left plan) c.scale) (omega arith)
    (over_scale_lem (run_most left) (rj_run left plan) (rj_run_inside left plan m) c.scale
    (run left plan m (anywhere c.x c.y c.z c.p)))
run (suc left) (Reduce r) n h =
    let plan = plan_of r.x r.y r.z r.p in
    let m = rj_done_inside r.x r.y r.z r.p in
    more (reduced_answer r (rj_run left plan)) (omega arith)
    (reduced (run_most left) r (rj_run left plan) (rj_run_inside left plan m)
    (run left plan m (anywhere r.x r.y r.z r.p)))

run_above : (left : ℕ) (plan : Plan) (n : ℕ) → Above plan n → Own (rj_run left plan) (rj_run_inside left plan n)
unfolding rj_run rj_run_inside
run_above zero plan n h = record { most = omega arith; exact = tt }
run_above (suc left) (Done a) n h = h
run_above (suc left) (Rescale c) n h =
    let plan = plan_of c.x c.y c.z c.p in
    let m = rj_done_inside c.x c.y c.z c.p in
    over_scale_lem rj_cap (rj_run left plan) (rj_run_inside left plan m) c.scale
    (run_above left plan m (above c.x c.y c.z c.p h))
run_above (suc left) (Reduce r) n h = absurd h

pub rj_inside : (left : ℕ) (x y z p : Float)
    → Exactly (run_most left) (rj_run left (plan_of x y z p)) (rj_run_inside left (plan_of x y z p) (rj_done_inside x y z p))
rj_inside left x y z p = run left (plan_of x y z p) (rj_done_inside x y z p) (anywhere x y z p)

pub rj_above_inside : (left : ℕ) (x y z p : Float) → le p +0 ≡ false
    → Exactly rj_cap (rj_run left (plan_of x y z p)) (rj_run_inside left (plan_of x y z p) (rj_done_inside x y z p))
rj_above_inside left x y z p h = run_above left (plan_of x y z p) (rj_done_inside x y z p) (above x y z p h)
