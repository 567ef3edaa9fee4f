-- The passes that a call begins inside, whatever it then answers (document 02, 2026-12): the entries' roads with their counts
-- alone. Definitions only.
use Rattle.std.specs.Prelude.{ℕ, zero, suc, ◌+◌, Bool, false, ◌&&◌, ◌||◌, cond, Float, Ok, Err}
use Rattle.std.specs.Float.Ieee.{lt, le, eq}
use Rattle.binary64.specs.Leaves.{minimum, maximum}
use Rattle.binary64.specs.Operators.{◌⊗◌, bits}
use Rattle.root.specs.Root.{root}
use Rattle.carlson.specs.Constants.{zero as +0}
use Rattle.carlson.specs.Common.{mean_cap}
use Rattle.carlson_arguments.specs.Checks.{any_nan3, any_nan4, any_infinite3, any_infinite4, below3, zeros_of3}
use Rattle.carlson_arguments.specs.Rescaling.{rescaling3}
use Rattle.carlson.specs.Loop.{capped}
use Rattle.carlson.specs.declared.answer.Found.{Found}
use Rattle.carlson.specs.Answer.{Answer}
use Rattle.sorting.specs.Sorting.{largest_first}
use Rattle.elliprf.specs.Rf.{rf_unchecked}
use Rattle.elliprd.specs.Means.{sums_of, rd_together, rd_agm_start}
use Rattle.rd_duplicate.specs.Duplicate.{rd_duplication}
use Rattle.rg_means.specs.Means.{rg_begin, rg_next, rg_together}
use Rattle.rg_joint.specs.Joint.{rg_joint}
use Rattle.rj_positive.specs.Duplicate.{rj_duplication}
use Rattle.rj_positive.specs.Positive.{well_apart}
use Rattle.rj_negative.specs.declared.reduction.Reduced.{Reduced}
use Rattle.rj_calls.specs.declared.plan.Plan.{Plan}
use Rattle.rj_calls.specs.declared.plan.Plan.TheVariants.{Done, Rescale, Reduce}
use Rattle.rj_calls.specs.Run.{plan_of, rj_run}
use Rattle.cel_passes.specs.Passes.{cel_steps}
use Rattle.calls.specs.declared.Call.{Call}
use Rattle.calls.specs.declared.Call.TheVariants.{Rc, Rf, Rd, Rg, Rj, Cel}
use Rattle.answers.specs.Answers.{number}

-- what a loop found has its count, also where that is NaN with the cap spent
abbrev pub rounds_in : Found → ℕ
rounds_in f = f.way.rounds

-- a loop's passes, however it was left
abbrev pub made : {S : Type 0} → S → ℕ → ℕ
made s n = n

-- a rescaling begins none
abbrev pub same : ℕ → Float → ℕ
same n s = n

-- ---- RD: its mean, which ends in a refusal with its cap spent, or duplication; the closed forms begin none
unfoldable pub rd_means_inside : Float → Float → ℕ
rd_means_inside y z = let s = rd_agm_start y z in capped sums_of rd_together made made mean_cap (rd_together s) s 0

unfoldable pub rd_general_inside : Float → Float → Float → ℕ
rd_general_inside x y z =
    cond (eq x +0) (cond (le y (bits 0x4030_0000_0000_0000 ⊗ z)) (rd_means_inside y z) (rounds_in (rd_duplication x y z)))
    (rounds_in (rd_duplication x y z))

unfoldable pub rd_ordered_inside : Float → Float → Float → ℕ
rd_ordered_inside x y z = cond (eq y z) (cond (eq x y) 0 (cond (eq x +0) 0 (rd_general_inside x y z))) (rd_general_inside x y z)

unfoldable pub rd_steps_inside : Float → Float → Float → ℕ
rd_steps_inside x y z = cond (eq x z) (rd_ordered_inside y x z) (rd_ordered_inside x y z)

unfoldable pub rd_inside : Float → Float → Float → ℕ
rd_inside = rescaling3 same rd_steps_inside

-- ---- RG: its mean, or the joint loop; the closed forms begin none
unfoldable pub rg_means_inside : Float → Float → ℕ
rg_means_inside x z = let s = rg_begin (root x) (root z) in capped rg_next rg_together made made mean_cap (rg_together s) s 0

unfoldable pub rg_sorted_inside : Float → Float → Float → ℕ
rg_sorted_inside x y z =
    cond (eq x z) 0 (cond (eq y z) 0 (cond (eq y +0) (rg_means_inside x z) (rounds_in (rg_joint x y z))))

unfoldable pub rg_steps_inside : Float → Float → Float → ℕ
rg_steps_inside x y z = let t = largest_first (record { x = x; y = y; z = z }) in rg_sorted_inside t.x t.y t.z

unfoldable pub rg_inside : Float → Float → Float → ℕ
rg_inside = rescaling3 same rg_steps_inside

-- ---- RJ for p above zero: RD where two are equal to p, or duplication; the closed forms begin none
unfoldable pub rj_last_inside : Float → Float → Float → Float → ℕ
rj_last_inside x y z p = cond (eq z p) (rd_inside x y z) (rounds_in (rj_duplication x y z p))

unfoldable pub rj_pair_inside : Float → Float → Float → Float → ℕ
rj_pair_inside x y z p =
    cond (eq y p) (rd_inside x y y)
    (cond (well_apart p y) (cond (le x (maximum y p)) 0 (rj_last_inside x y z p)) (rj_last_inside x y z p))

unfoldable pub rj_cases_inside : Float → Float → Float → Float → ℕ
rj_cases_inside x y z p = cond (eq y z) (rj_pair_inside x y z p) (rj_last_inside x y z p)

unfoldable pub rj_positive_inside : Float → Float → Float → Float → ℕ
rj_positive_inside x y z p =
    cond (eq x y)
    (cond (eq x z) (cond (eq x p) 0 (cond (well_apart p x) 0 (rj_cases_inside x y z p))) (rj_cases_inside z y x p))
    (rj_cases_inside x y z p)

-- a call that calls itself no more: near RJ's zero the expansion begins none
unfoldable pub rj_done_inside : Float → Float → Float → Float → ℕ
rj_done_inside x y z p = cond (le p +0) 0 (rj_positive_inside x y z p)

-- a reduction calls RF after RJ, where that was not refused; RC begins none
unfoldable pub reduced_inside : Reduced → Answer → ℕ → ℕ
reduced_inside r (Ok f) n = n + rounds_in (rf_unchecked r.x r.y r.z)
reduced_inside r (Err m) n = n

-- so many calls are left; the plan, and what it begins if it is done
unfoldable pub rj_run_inside : ℕ → Plan → ℕ → ℕ
rj_run_inside zero plan own = 0
rj_run_inside (suc left) (Done a) own = own
rj_run_inside (suc left) (Rescale c) own =
    rj_run_inside left (plan_of c.x c.y c.z c.p) (rj_done_inside c.x c.y c.z c.p)
rj_run_inside (suc left) (Reduce r) own =
    let plan = plan_of r.x r.y r.z r.p in
    reduced_inside r (rj_run left plan) (rj_run_inside left plan (rj_done_inside r.x r.y r.z r.p))

-- ---- the entries: a call that is refused by its arguments begins none
unfoldable pub rf_begun : Float → Float → Float → ℕ
rf_begun x y z =
    cond (any_nan3 x y z) 0
    (cond (below3 x y z) 0 (cond (zeros_of3 x y z) 0 (cond (any_infinite3 x y z) 0 (rounds_in (rf_unchecked x y z)))))

unfoldable pub rd_begun : Float → Float → Float → ℕ
rd_begun x y z = cond (lt (minimum x y) +0) 0 (cond (eq x +0 && eq y +0) 0 (cond (le z +0) 0 (rd_inside x y z)))

unfoldable pub rg_begun : Float → Float → Float → ℕ
rg_begun x y z = cond (below3 x y z) 0 (rg_inside x y z)

-- RJ's two entries refuse the other sign of p too (document 02, 2026-10)
unfoldable pub rj_signed_begun : Bool → Float → Float → Float → Float → ℕ
rj_signed_begun wrong x y z p =
    cond (any_nan4 x y z p) 0
    (cond (eq p +0) 0
    (cond wrong 0
    (cond (below3 x y z) 0
    (cond (zeros_of3 x y z) 0
    (cond (any_infinite4 x y z p) 0 (rj_run_inside 4 (plan_of x y z p) (rj_done_inside x y z p)))))))

unfoldable pub rj_begun : Float → Float → Float → Float → ℕ
rj_begun x y z p = rj_signed_begun false x y z p

unfoldable pub cel_begun : Float → Float → Float → Float → ℕ
cel_begun kc p a b = cond (eq kc +0 || eq p +0) 0 (rounds_in (cel_steps kc p a b))

-- RC has no loop
unfoldable pub begun_of : Call → ℕ
begun_of (Rc x y) = 0
begun_of (Rf x y z) = rf_begun (number x) (number y) (number z)
begun_of (Rd x y z) = rd_begun (number x) (number y) (number z)
begun_of (Rg x y z) = rg_begun (number x) (number y) (number z)
begun_of (Rj x y z p) = rj_begun (number x) (number y) (number z) (number p)
begun_of (Cel kc p a b) = cel_begun (number kc) (number p) (number a) (number b)
