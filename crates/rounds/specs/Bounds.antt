-- HOW MUCH WORK A CALL CAN BE (document 02, 2026-12): the rounds of every answer, and the passes begun inside also where a call
-- ends in a refusal, which carries no count. Assumes nothing.
use Rattle.std.specs.Prelude.{ℕ, ◌-◌, ◌≤◌, ◌≡◌, Bool, true, false, ◌&&◌, ◌||◌, cond, Float, Ok, Err}
use Rattle.std.proofs.Math.Path.{refl}
use Rattle.std.proofs.Common.{sym, arith}
use Rattle.std.specs.Float.Ieee.{lt, le, eq}
use Rattle.std.specs.Float.Ieee.Scale.{finite}
use Rattle.binary64.specs.Leaves.{minimum}
use Rattle.refusals.specs.declared.Refusal.{Refusal}
use Rattle.carlson.specs.Constants.{zero as +0}
use Rattle.carlson_arguments.specs.Checks.{any_nan2, any_nan3, any_nan4, any_infinite2, any_infinite3, any_infinite4, below3, zeros_of3}
use Rattle.carlson.specs.Answer.{infinite_at, loop_at, settled, settled_late}
use Rattle.carlson.specs.Loop.{capped_holds}
use Rattle.carlson.proofs.Only.{asked, chosen, chosen_both}
use Rattle.carlson.specs.declared.answer.Found.{Found}
use Rattle.carlson.specs.declared.answer.Road.TheVariants.{Infinite}
use Rattle.carlson.specs.Answer.{Answer}
use Rattle.elliprc.specs.Rc.{rc_unchecked, rc}
use Rattle.elliprc.specs.Few.{rc_within}
use Rattle.rf_duplicate.specs.Duplicate.{rf_cap}
use Rattle.elliprf.specs.Rf.{rf_unchecked, rf}
use Rattle.elliprf.proofs.Few.{rf_within}
use Rattle.rd_duplicate.specs.Duplicate.{rd_cap}
use Rattle.elliprd.specs.Rd.{rd_unchecked, rd_settled, rd}
use Rattle.rg_joint.specs.Joint.{joint_cap}
use Rattle.elliprg.specs.Rg.{rg_unchecked, rg_settled, rg}
use Rattle.rj_positive.specs.Duplicate.{rj_cap}
use Rattle.rj_calls.specs.Few.{run_most}
use Rattle.elliprj.specs.Rj.{rj_settled, rj_rest, rj_signed, rj, rj_of_positive, rj_of_negative}
use Rattle.rj_calls.specs.Run.{plan_of, rj_unchecked}
use Rattle.cel_passes.specs.Passes.{cel_next, cel_near, cel_found, cel_spent, cel_cap, cel_from, cel_pass, cel_begin, cel_steps}
use Rattle.cel.specs.Cel.{cel_unsettled, cel_settled, several_unbounded, either_unbounded, cel}
use Rattle.calls.specs.declared.Call.{Call}
use Rattle.calls.specs.declared.Call.TheVariants.{Rc, Rf, Rd, Rg, Rj, Cel}
use Rattle.answers.specs.Answers.{number, answer_of}
use Rattle.rounds.specs.Inside.{
  rounds_in,
  rd_inside,
  rg_inside,
  rj_done_inside,
  rj_run_inside,
  rf_begun,
  rd_begun,
  rg_begun,
  rj_signed_begun,
  rj_begun,
  cel_begun,
  begun_of,
}
use Rattle.rounds.specs.Exact.{Exactly, rd_inside_lem, rg_inside_lem}
use Rattle.rounds.specs.Runs.{rj_inside, rj_above_inside}

-- ---- THE STATEMENT
-- the rounds of an answer
abbrev pub rounds_of : Answer → ℕ
rounds_of (Ok f) = f.way.rounds
rounds_of (Err n) = 0

abbrev pub above_most : ℕ
above_most = 100

abbrev pub below_most : ℕ
below_most = 133

-- "cel's count is at most 30"
abbrev pub cel_most : ℕ
cel_most = 30

-- "the count is at most 0 for RC, 11 for RF, 50 for RD and RG, 100 for RJ with p above zero and 133 with p below"
abbrev pub most_of : Call → ℕ
most_of (Rc x y) = 0
most_of (Rf x y z) = 11
most_of (Rd x y z) = 50
most_of (Rg x y z) = 50
most_of (Rj x y z p) = cond (lt (number p) +0) below_most above_most
most_of (Cel kc p a b) = cel_most

-- n is what the answer counts; the zero for an infinite argument counts none (document 02, 2026-04), whatever was begun
pub data Counted (n : ℕ) : Answer → Type 0 where
  value : {f : Found} → f.way.rounds ≡ n → Counted n (Ok f)
  infinite : {f : Found} → f.road ≡ Infinite → f.way.rounds ≡ 0 → Counted n (Ok f)
  refused : {r : Refusal} → Counted n (Err r)

-- n passes are begun: at most m, and the answer counts them
pub record Begun (m : ℕ) (a : Answer) (n : ℕ) : Type 0 where
  pub most : n ≤ m
  pub counts : Counted n a
