-- DEMAND 1 (document 01): whatever bits a call has, it is answered by a finite value, or by one of its entry's numbers and
-- nothing else. What a function answers is, by its contract, the definition's answer. Assumes nothing.
use Rattle.std.specs.Prelude.{ℕ, zero, suc, ◌≡◌, refl, Bool, false, ◌&&◌, ◌||◌, List, [], ◌∷◌, Float}
use Rattle.std.proofs.Common.{arith, Ok, Err}
use Rattle.std.specs.Float.Ieee.{lt, le, eq}
use Rattle.refusals.specs.Numbers.{refusal_numbers}
use Rattle.refusals.specs.declared.Refusal.TheVariants.{AgmSpent, NoResult, RcNoResult, RgNoResult, TooDeep}
use Rattle.binary64.specs.Leaves.{minimum, maximum}
use Rattle.binary64.specs.Operators.{◌⊗◌, bits}
use Rattle.carlson.specs.Constants.{zero as +0}
use Rattle.carlson_arguments.specs.Checks.{any_nan2, any_nan3, any_nan4, any_infinite2, any_infinite3, any_infinite4, below3, zeros_of3}
use Rattle.carlson.specs.Common.{mean_cap}
use Rattle.carlson.specs.Loop.{capped_holds}
use Rattle.carlson.specs.Only.{among, Only, value, refused, Finite, Any}
use Rattle.carlson.proofs.Only.{chosen, finite_or, settled_only}
use Rattle.carlson_arguments.specs.Rescaled.{rescaled3}
use Rattle.carlson.proofs.Only.{infinite_only, late_only, told_only, longer}
use Rattle.carlson.specs.Answer.{Answer}
use Rattle.elliprc.specs.Rc.{rc_unchecked, rc}
use Rattle.elliprf.specs.Rf.{rf_unchecked, rf}
use Rattle.elliprd.specs.Means.{sums_of, rd_together, rd_agm_found, rd_agm_spent, rd_agm_start, rd_agm_of}
use Rattle.elliprd.specs.Rd.{rd_equal, rd_zero, rd_general, rd_ordered, rd_steps, over_scale, rd_unchecked, rd_settled, rd}
use Rattle.root.specs.Root.{root}
use Rattle.rg_means.specs.Means.{rg_begin, rg_next, rg_together, rg_agm_found, rg_agm_spent, rg_agm_of}
use Rattle.elliprg.specs.Rg.{rg_equal, rg_zero, rg_two, rg_alone, rg_top, rg_low, rg_sorted, rg_steps, times_root, rg_unchecked, rg_settled}
use Rattle.elliprg.specs.Rg.{rg}
use Rattle.rj_positive.specs.Positive.{well_apart, rj_all, rj_three, rj_two, rj_last, rj_pair, rj_cases, rj_positive}
use Rattle.rj_negative.specs.declared.reduction.Reduced.{Reduced}
use Rattle.rj_negative.specs.Reduction.{reduced_answer}
use Rattle.rj_calls.specs.declared.plan.Plan.{Plan}
use Rattle.rj_calls.specs.declared.plan.Plan.TheVariants.{Done, Rescale, Reduce}
use Rattle.rj_calls.specs.Plans.{Plans, plan_holds}
use Rattle.elliprj.specs.Rj.{rj_settled, rj_rest, rj}
use Rattle.rj_calls.specs.Run.{plan_of, rj_run, rj_unchecked}
use Rattle.elliprj.specs.Rj.{rj_signed, rj_of_positive, rj_of_negative}
use Rattle.cel_passes.specs.Passes.{cel_steps}
use Rattle.cel.specs.Cel.{either_unbounded, several_unbounded, cel_unsettled, cel_settled, cel}
use Rattle.calls.specs.declared.Call.{Call}
use Rattle.calls.specs.declared.Call.TheVariants.{Rc, Rf, Rd, Rg, Rj, Cel}
use Rattle.answers.specs.Answers.{number, answer_of}
use Rattle.demands.specs.Total.{cel_numbers, numbers_of, rc_numbers, rd_numbers, rf_numbers, rg_numbers, rj_numbers, rj_signed_numbers}

-- ---- RC and RF: the checks, then what is settled
pub rc_only : (x y : Float) → Only Finite rc_numbers (rc x y)
unfolding rc
rc_only x y =
    let Q = Only Finite rc_numbers in
    chosen Q (lt x +0) (refused tt)
    (chosen Q (eq y +0) (refused tt) (late_only rc_numbers (rc_unchecked x y) (any_nan2 x y) (any_infinite2 x y) RcNoResult tt tt))

pub rf_only : (x y z : Float) → Only Finite rf_numbers (rf x y z)
unfolding rf
rf_only x y z =
    let Q = Only Finite rf_numbers in
    chosen Q (any_nan3 x y z) (refused tt)
    (chosen Q (below3 x y z) (refused tt)
    (chosen Q (zeros_of3 x y z) (refused tt)
    (chosen Q (any_infinite3 x y z) (infinite_only rf_numbers) (settled_only rf_numbers (rf_unchecked x y z) NoResult tt))))

-- ---- RD and RG: their steps can give 9 beside a value
abbrev spent_only : List ℕ
spent_only = refusal_numbers (AgmSpent ∷ [])

abbrev Steps : Answer → Type 0
Steps a = Only Any spent_only a

rd_agm : (y z : Float) → Steps (rd_agm_of y z)
unfolding rd_agm_of
rd_agm y z =
    let s = rd_agm_start y z in
    capped_holds sums_of rd_together (rd_agm_found (root y) (root z) y z) rd_agm_spent Steps mean_cap (λ t n h. value tt)
    (λ t n h. refused tt) mean_cap
    (rd_together s) s 0 (omega arith)

rd_general_lem : (x y z : Float) → Steps (rd_general x y z)
unfolding rd_general
rd_general_lem x y z =
    chosen Steps (eq x +0) (chosen Steps (le y (bits 0x4030_0000_0000_0000 ⊗ z)) (rd_agm y z) (value tt)) (value tt)

rd_ordered_lem : (x y z : Float) → Steps (rd_ordered x y z)
unfolding rd_ordered rd_equal rd_zero
rd_ordered_lem x y z =
    chosen Steps (eq y z) (chosen Steps (eq x y) (value tt) (chosen Steps (eq x +0) (value tt) (rd_general_lem x y z)))
    (rd_general_lem x y z)

rd_steps_lem : (x y z : Float) → Steps (rd_steps x y z)
unfolding rd_steps
rd_steps_lem x y z = chosen Steps (eq x z) (rd_ordered_lem y x z) (rd_ordered_lem x y z)

over_scale_lem : {ns : List ℕ} (a : Answer) (s : Float) → Only Any ns a → Only Any ns (over_scale a s)
unfolding over_scale
over_scale_lem (Ok f) s (value v) = value tt
over_scale_lem (Err n) s (refused h) = refused h

rd_unchecked_lem : (x y z : Float) → Steps (rd_unchecked x y z)
unfolding rd_unchecked
rd_unchecked_lem x y z = rescaled3 Steps over_scale rd_steps rd_steps_lem over_scale_lem x y z

pub rd_only : (x y z : Float) → Only Finite rd_numbers (rd x y z)
unfolding rd rd_settled
rd_only x y z =
    let Q = Only Finite rd_numbers in
    chosen Q (lt (minimum x y) +0) (refused tt)
    (chosen Q (eq x +0 && eq y +0) (refused tt)
    (chosen Q (le z +0) (refused tt)
    (told_only rd_numbers (λ a. rd_settled a (any_nan3 x y z) (any_infinite3 x y z))
    (λ f. late_only rd_numbers f (any_nan3 x y z) (any_infinite3 x y z) NoResult tt tt)
    (λ n. refl) tt (rd_unchecked x y z) (rd_unchecked_lem x y z))))

rg_agm : (x z : Float) → Steps (rg_agm_of x z)
unfolding rg_agm_of
rg_agm x z =
    let s = rg_begin (root x) (root z) in
    capped_holds rg_next rg_together rg_agm_found rg_agm_spent Steps mean_cap (λ t n h. value tt) (λ t n h. refused tt) mean_cap
    (rg_together s) s 0 (omega arith)

rg_sorted_lem : (x y z : Float) → Steps (rg_sorted x y z)
unfolding rg_sorted rg_top rg_low rg_equal rg_zero rg_two rg_alone
rg_sorted_lem x y z =
    chosen Steps (eq x z) (chosen Steps (eq y z) (value tt) (chosen Steps (eq y +0) (value tt) (value tt)))
    (chosen Steps (eq y z) (chosen Steps (eq y +0) (value tt) (value tt)) (chosen Steps (eq y +0) (rg_agm x z) (value tt)))

rg_steps_lem : (x y z : Float) → Steps (rg_steps x y z)
unfolding rg_steps
rg_steps_lem x y z = rg_sorted_lem _ _ _

times_root_lem : (a : Answer) (s : Float) → Steps a → Steps (times_root a s)
unfolding times_root
times_root_lem (Ok f) s (value v) = value tt
times_root_lem (Err n) s (refused h) = refused h

rg_unchecked_lem : (x y z : Float) → Steps (rg_unchecked x y z)
unfolding rg_unchecked
rg_unchecked_lem x y z = rescaled3 Steps times_root rg_steps rg_steps_lem times_root_lem x y z

pub rg_only : (x y z : Float) → Only Finite rg_numbers (rg x y z)
unfolding rg rg_settled
rg_only x y z =
    chosen (Only Finite rg_numbers) (below3 x y z) (refused tt)
    (told_only rg_numbers (λ a. rg_settled a (any_nan3 x y z))
    (λ f. late_only rg_numbers f (any_nan3 x y z) false RgNoResult tt tt) (λ n. refl) tt
    (rg_unchecked x y z) (rg_unchecked_lem x y z))

-- ---- RJ: 9 from RD, 10 with no call left
abbrev Run : Answer → Type 0
Run a = Only Any (refusal_numbers (AgmSpent ∷ TooDeep ∷ [])) a

rj_positive_lem : (x y z p : Float) → Steps (rj_positive x y z p)
unfolding rj_positive rj_all rj_three
rj_positive_lem x y z p =
    chosen Steps (eq x y)
    (chosen Steps (eq x z) (chosen Steps (eq x p) (value tt) (chosen Steps (well_apart p x) (value tt) (cases x y z)))
    (cases z y x)) (cases x y z)
  where
    last : (x y z : Float) → Steps (rj_last x y z p)
    last x y z = unfold rj_last in chosen Steps (eq z p) (rd_unchecked_lem x y z) (value tt)

    pair : (x y z : Float) → Steps (rj_pair x y z p)
    pair x y z = unfold rj_pair rj_two in
        chosen Steps (eq y p) (rd_unchecked_lem x y y)
        (chosen Steps (well_apart p y) (chosen Steps (le x (maximum y p)) (value tt) (last x y z)) (last x y z))

    cases : (x y z : Float) → Steps (rj_cases x y z p)
    cases x y z = unfold rj_cases in chosen Steps (eq y z) (pair x y z) (last x y z)

-- what a call is done with at once
abbrev Planned : Plan → Type 0
Planned = Plans Steps (λ c. Unit {0}) (λ r. Unit {0})

planned : (x y z p : Float) → Planned (plan_of x y z p)
planned x y z p =
    plan_holds Steps (λ c. Unit {0}) (λ r. Unit {0}) p (λ h v. value tt) (λ x y z h. tt) (λ h x y z. tt) x y z
    (λ h. rj_positive_lem x y z p)

reduced : (r : Reduced) (a : Answer) → Run a → Run (reduced_answer r a)
unfolding reduced_answer
reduced r (Ok f) (value v) = value tt
reduced r (Err n) (refused h) = refused h

run : (left : ℕ) (p : Plan) → Planned p → Run (rj_run left p)
unfolding rj_run
run zero p h = refused tt
run (suc left) (Done a) h = longer spent_only (refusal_numbers (AgmSpent ∷ TooDeep ∷ [])) tt h
run (suc left) (Rescale c) h = over_scale_lem _ c.scale (run left (plan_of c.x c.y c.z c.p)
    (planned c.x c.y c.z c.p))
run (suc left) (Reduce r) h = reduced r _ (run left (plan_of r.x r.y r.z r.p) (planned r.x r.y r.z r.p))

rj_rest_lem : (x y z p : Float) → Only Finite rj_numbers (rj_rest x y z p)
unfolding rj_rest rj_settled rj_unchecked
rj_rest_lem x y z p =
    let Q = Only Finite rj_numbers in
    chosen Q (below3 x y z) (refused tt)
    (chosen Q (zeros_of3 x y z) (refused tt)
    (chosen Q (any_infinite4 x y z p) (infinite_only rj_numbers)
    (told_only rj_numbers rj_settled (λ f. settled_only rj_numbers f NoResult tt) (λ n. refl) tt (rj_unchecked x y z p)
    (run 4 (plan_of x y z p) (planned x y z p)))))

pub rj_only : (x y z p : Float) → Only Finite rj_numbers (rj x y z p)
unfolding rj rj_signed
rj_only x y z p =
    let Q = Only Finite rj_numbers in
    chosen Q (any_nan4 x y z p) (refused tt) (chosen Q (eq p +0) (refused tt) (rj_rest_lem x y z p))

signed_only : (wrong : Bool) (x y z p : Float) → Only Finite rj_signed_numbers (rj_signed wrong x y z p)
unfolding rj_signed
signed_only wrong x y z p =
    let Q = Only Finite rj_signed_numbers in
    chosen Q (any_nan4 x y z p) (refused tt)
    (chosen Q (eq p +0) (refused tt)
    (chosen Q wrong (refused tt) (longer rj_numbers rj_signed_numbers tt (rj_rest_lem x y z p))))

pub rj_positive_only : (x y z p : Float) → Only Finite rj_signed_numbers (rj_of_positive x y z p)
unfolding rj_of_positive
rj_positive_only x y z p = signed_only (lt p +0) x y z p

pub rj_negative_only : (x y z p : Float) → Only Finite rj_signed_numbers (rj_of_negative x y z p)
unfolding rj_of_negative
rj_negative_only x y z p = signed_only (lt +0 p) x y z p

-- ---- cel: a finite value of the steps, or what the arguments say
cel_unsettled_lem : (kc p a b : Float) → Only Finite cel_numbers (cel_unsettled kc p a b)
unfolding cel_unsettled
cel_unsettled_lem kc p a b =
    let Q = Only Finite cel_numbers in
    chosen Q (any_nan4 kc p a b) (refused tt)
    (chosen Q (several_unbounded kc p a b) (refused tt)
    (chosen Q (either_unbounded kc p) (infinite_only cel_numbers)
    (chosen Q (either_unbounded a b) (refused tt) (refused tt))))

pub cel_only : (kc p a b : Float) → Only Finite cel_numbers (cel kc p a b)
unfolding cel cel_settled
cel_only kc p a b =
    chosen (Only Finite cel_numbers) (eq kc +0 || eq p +0) (refused tt)
    (finite_or (cel_steps kc p a b) (cel_unsettled_lem kc p a b))

pub total : (c : Call) → Only Finite (numbers_of c) (answer_of c)
unfolding answer_of
total (Rc x y) = rc_only (number x) (number y)
total (Rf x y z) = rf_only (number x) (number y) (number z)
total (Rd x y z) = rd_only (number x) (number y) (number z)
total (Rg x y z) = rg_only (number x) (number y) (number z)
total (Rj x y z p) = rj_only (number x) (number y) (number z) (number p)
total (Cel kc p a b) = cel_only (number kc) (number p) (number a) (number b)

-- and 0, which a C program takes for a value, is no refusal's number
pub never_zero : (c : Call) → among 0 (numbers_of c) ≡ false
never_zero (Rc x y) = refl
never_zero (Rf x y z) = refl
never_zero (Rd x y z) = refl
never_zero (Rg x y z) = refl
never_zero (Rj x y z p) = refl
never_zero (Cel kc p a b) = refl
