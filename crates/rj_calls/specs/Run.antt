-- RJ before its checks as the steps of elliprj.rs, each rounded once, with document 01's rescaling and depth. Definitions only.
use Rattle.std.specs.Prelude.{ℕ, zero, suc, cond, Float, Ok, Err, Option, Some, None}
use Rattle.std.specs.Float.Ieee.{neg, le}
use Rattle.refusals.specs.declared.Refusal.TheVariants.{TooDeep}
use Rattle.binary64.specs.Operators.{◌⊘◌}
use Rattle.carlson.specs.Constants.{zero as zero_above}
use Rattle.carlson_arguments.specs.Rescaling.{scale_of4, rescales4}
use Rattle.carlson.specs.Answer.{taylor_at}
use Rattle.carlson.specs.Answer.{Answer}
use Rattle.sorting.specs.Sorting.{rising}
use Rattle.elliprd.specs.Rd.{over_scale}
use Rattle.rj_positive.specs.Positive.{rj_positive}
use Rattle.rj_near_zero.specs.NearZero.{near_zero}
use Rattle.rj_negative.specs.Reduction.{reduce_of, reduced_answer}
use Rattle.rj_calls.specs.declared.plan.Plan.{Plan}
use Rattle.rj_calls.specs.declared.plan.Plan.TheVariants.{Done, Rescale, Reduce}

-- ---- what a call does: it is done, or calls itself at rescaled arguments, or at the reduction's
-- past the rescaling
unfoldable pub plan_unscaled : Float → Float → Float → Float → Plan
plan_unscaled x y z p = cond (le p zero_above) (Reduce (reduce_of x y z (neg p))) (Done (rj_positive x y z p))

unfoldable pub plan_scaled : Float → Float → Float → Float → Plan
plan_scaled x y z p =
    let s = scale_of4 x y z p in
    cond (rescales4 x y z p s) (Rescale (record { x = x ⊘ s; y = y ⊘ s; z = z ⊘ s; p = p ⊘ s; scale = s })) (plan_unscaled x y z p)

-- near RJ's zero the expansion answers, before any rescaling
unfoldable pub plan_near : Option Float → Float → Float → Float → Float → Plan
plan_near (Some v) x y z p = Done (Ok (taylor_at v))
plan_near None x y z p = plan_scaled x y z p

-- for p at most zero, at the arguments in rising order
unfoldable pub plan_of : Float → Float → Float → Float → Plan
plan_of x y z p =
    let t = rising (record { x = x; y = y; z = z }) in
    cond (le p zero_above) (plan_near (near_zero t.x t.y t.z (neg p)) t.x t.y t.z p) (plan_scaled x y z p)

-- ---- document 01, Rounds: with no call left it is refused with 10
unfoldable pub rj_run : ℕ → Plan → Answer
rj_run zero plan = Err TooDeep
rj_run (suc left) (Done a) = a
rj_run (suc left) (Rescale c) = over_scale (rj_run left (plan_of c.x c.y c.z c.p)) c.scale
rj_run (suc left) (Reduce r) = reduced_answer r (rj_run left (plan_of r.x r.y r.z r.p))

-- at most four calls deep, the first included
unfoldable pub rj_unchecked : Float → Float → Float → Float → Answer
rj_unchecked x y z p = rj_run 4 (plan_of x y z p)
