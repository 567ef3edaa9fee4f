-- DEMAND 1 (document 01): whatever bits a call has, it is answered by a finite value, or by one of its entry's numbers and
-- nothing else. What a function answers is, by its contract, the definition's answer. Assumes nothing.
use Rattle.std.specs.Prelude.{ℕ, zero, suc, ◌≡◌, refl, Bool, false, ◌&&◌, ◌||◌, List, [], ◌∷◌, Float}
use Rattle.std.proofs.Common.{arith}
use Rattle.std.specs.Float.Ieee.{lt, le, eq}
use Rattle.refusals.specs.Numbers.{refusal_number, refusal_numbers}
use Rattle.refusals.specs.declared.Refusal.TheVariants.{
  AOrBInfinite,
  AgmSpent,
  BelowZero,
  NanGiven,
  NoResult,
  RcNoResult,
  RgNoResult,
  SeveralInfinite,
  TooDeep,
  WrongSign,
  ZNotAbove,
  ZeroGiven,
  Zeros,
}
use Rattle.binary64.specs.Leaves.{minimum, maximum}
use Rattle.binary64.specs.Operators.{◌⊗◌, bits}
use Rattle.carlson.specs.Constants.{zero as +0}
use Rattle.carlson_arguments.specs.Checks.{any_nan2, any_nan3, any_nan4, any_infinite2, any_infinite3, any_infinite4, below3, zeros_of3}
use Rattle.carlson.specs.Common.{mean_cap}
use Rattle.carlson.specs.Loop.{capped_holds}
use Rattle.carlson.specs.Only.{among, Only, value, refused, Finite, Any}
use Rattle.carlson.proofs.Only.{chosen, finite_or, settled_only}
use Rattle.carlson_arguments.specs.Rescaled.{rescaled3}
use Rattle.carlson.proofs.Only.{infinite_only, late_only, told_only, longer}
use Rattle.carlson.specs.Answer.{Answer}
use Rattle.elliprc.specs.Rc.{rc_unchecked, rc}
use Rattle.elliprf.specs.Rf.{rf_unchecked, rf}
use Rattle.elliprd.specs.Means.{sums_of, rd_together, rd_agm_found, rd_agm_spent, rd_agm_start, rd_agm_of}
use Rattle.elliprd.specs.Rd.{rd_equal, rd_zero, rd_general, rd_ordered, rd_steps, over_scale, rd_unchecked, rd_settled, rd}
use Rattle.root.specs.Root.{root}
use Rattle.rg_means.specs.Means.{rg_begin, rg_next, rg_together, rg_agm_found, rg_agm_spent, rg_agm_of}
use Rattle.elliprg.specs.Rg.{rg_equal, rg_zero, rg_two, rg_alone, rg_top, rg_low, rg_sorted, rg_steps, times_root, rg_unchecked, rg_settled}
use Rattle.elliprg.specs.Rg.{rg}
use Rattle.rj_positive.specs.Positive.{well_apart, rj_all, rj_three, rj_two, rj_last, rj_pair, rj_cases, rj_positive}
use Rattle.rj_negative.specs.declared.reduction.Reduced.{Reduced}
use Rattle.rj_negative.specs.Reduction.{reduced_answer}
use Rattle.rj_calls.specs.declared.plan.Plan.{Plan}
use Rattle.rj_calls.specs.declared.plan.Plan.TheVariants.{Done, Rescale, Reduce}
use Rattle.rj_calls.specs.Plans.{Plans, plan_holds}
use Rattle.elliprj.specs.Rj.{rj_settled, rj_rest, rj}
use Rattle.rj_calls.specs.Run.{plan_of, rj_run, rj_unchecked}
use Rattle.elliprj.specs.Rj.{rj_signed, rj_of_positive, rj_of_negative}
use Rattle.cel_passes.specs.Passes.{cel_steps}
use Rattle.cel.specs.Cel.{either_unbounded, several_unbounded, cel_unsettled, cel_settled, cel}
use Rattle.calls.specs.declared.Call.{Call}
use Rattle.calls.specs.declared.Call.TheVariants.{Rc, Rf, Rd, Rg, Rj, Cel}
use Rattle.answers.specs.Answers.{number, answer_of}

-- ---- the numbers that each entry can give, as the header and docs/REFUSALS.md list them
abbrev pub rc_numbers : List ℕ
rc_numbers = refusal_numbers (NanGiven ∷ BelowZero ∷ ZeroGiven ∷ RcNoResult ∷ [])

abbrev pub rf_numbers : List ℕ
rf_numbers = refusal_numbers (NanGiven ∷ BelowZero ∷ Zeros ∷ NoResult ∷ [])

abbrev pub rd_numbers : List ℕ
rd_numbers = refusal_numbers (NanGiven ∷ BelowZero ∷ Zeros ∷ ZNotAbove ∷ NoResult ∷ AgmSpent ∷ [])

abbrev pub rg_numbers : List ℕ
rg_numbers = refusal_numbers (NanGiven ∷ BelowZero ∷ RgNoResult ∷ AgmSpent ∷ [])

abbrev pub rj_numbers : List ℕ
rj_numbers = refusal_numbers (NanGiven ∷ BelowZero ∷ Zeros ∷ ZeroGiven ∷ NoResult ∷ AgmSpent ∷ TooDeep ∷ [])

abbrev pub cel_numbers : List ℕ
cel_numbers = refusal_numbers (NanGiven ∷ ZeroGiven ∷ NoResult ∷ SeveralInfinite ∷ AOrBInfinite ∷ [])

-- each of the two entries may say 21 too
abbrev pub rj_signed_numbers : List ℕ
rj_signed_numbers = refusal_number WrongSign ∷ rj_numbers

-- ---- THE THEOREM, over a call
abbrev pub numbers_of : Call → List ℕ
numbers_of (Rc x y) = rc_numbers
numbers_of (Rf x y z) = rf_numbers
numbers_of (Rd x y z) = rd_numbers
numbers_of (Rg x y z) = rg_numbers
numbers_of (Rj x y z p) = rj_numbers
numbers_of (Cel kc p a b) = cel_numbers
