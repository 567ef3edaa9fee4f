-- RJ begins at most one loop of its own and an RF a reduction (document 02, 2026-12), so that the code's sums are plain. Assumes
-- nothing.
use Rattle.std.specs.Prelude.{ℕ, zero, suc, ◌+◌, ◌*◌, ◌≤◌, ◌≡◌, Float}
use Rattle.std.proofs.Common.{arith}
use Rattle.carlson.specs.Answer.{taylor_at}
use Rattle.carlson.specs.Ways.{Few}
use Rattle.carlson.proofs.Ways.{counted, few_wider}
use Rattle.carlson.specs.Answer.{Answer}
use Rattle.rf_duplicate.specs.Duplicate.{rf_cap}
use Rattle.elliprd.specs.Rd.{over_scale}
use Rattle.elliprd.proofs.Few.{over_scale_few}
use Rattle.rj_positive.specs.Duplicate.{rj_cap}
use Rattle.rj_positive.specs.Few.{positive_few}
use Rattle.rj_negative.specs.declared.reduction.Reduced.{Reduced}
use Rattle.rj_negative.specs.Reduction.{reduced_answer, wrapped_answer}
use Rattle.rj_negative.specs.Few.{reduced_few, carried_plain}
use Rattle.rj_calls.specs.declared.plan.Plan.{Plan}
use Rattle.rj_calls.specs.declared.plan.Plan.TheVariants.{Done, Rescale, Reduce}
use Rattle.rj_calls.specs.Run.{plan_of, rj_run}
use Rattle.rj_calls.specs.Plans.{Plans, plan_holds}

-- RF's 11 for each call but the last, whose loop has 100; so many rescalings, three a call
abbrev pub run_most : ℕ → ℕ
run_most left = 89 + 11 * left

abbrev pub run_scaled : ℕ → ℕ
run_scaled left = 97 + 3 * left

abbrev Planned : Plan → Type 0
Planned = Plans (Few rj_cap 100) (λ c. Unit {0}) (λ r. Unit {0})

planned : (x y z p : Float) → Planned (plan_of x y z p)
unfolding taylor_at
planned x y z p =
    plan_holds (Few rj_cap 100) (λ c. Unit {0}) (λ r. Unit {0}) p (λ h v. counted 0 (omega arith)) (λ x y z h. tt)
    (λ h x y z. tt) x y z (λ h. positive_few x y z p)

-- what a call may add to those that it makes
call : (left m k : ℕ) → m ≤ run_most (suc left) → k ≤ run_scaled (suc left) → (a : Answer) → Few m k a
    → Few (run_most (suc left)) (run_scaled (suc left)) a
call left m k = few_wider

run : (left : ℕ) (p : Plan) → Planned p → Few (run_most left) (run_scaled left) (rj_run left p)
unfolding rj_run
run zero p h = tt
run (suc left) (Done a) h = call left rj_cap 100 (omega arith) (omega arith) a h
run (suc left) (Rescale c) h =
    let plan = plan_of c.x c.y c.z c.p in
    let a = rj_run left plan in
    call left (run_most left) (run_scaled left + 1) (omega arith) (omega arith) (over_scale a c.scale)
    (over_scale_few (run_most left) (run_scaled left) a c.scale (run left plan (planned c.x c.y c.z c.p)))
run (suc left) (Reduce r) h =
    let plan = plan_of r.x r.y r.z r.p in
    let a = rj_run left plan in
    call left (run_most left + rf_cap) (run_scaled left + 3) (omega arith) (omega arith) (reduced_answer r a)
    (reduced_few (run_most left) (run_scaled left) r a (run left plan (planned r.x r.y r.z r.p)))

pub run_few : (left : ℕ) (x y z p : Float) → Few (run_most left) (run_scaled left) (rj_run left (plan_of x y z p))
run_few left x y z p = run left (plan_of x y z p) (planned x y z p)

-- "under four nested calls" the sums in u32 are plain
pub run_plain : (left : ℕ) → left ≤ 4 → (r : Reduced) (x y z p : Float)
    → wrapped_answer r (rj_run left (plan_of x y z p)) ≡ reduced_answer r (rj_run left (plan_of x y z p))
run_plain left h r x y z p =
    carried_plain (run_most left) (run_scaled left) (omega arith) (omega arith) r (rj_run left (plan_of x y z p))
    (run_few left x y z p)
