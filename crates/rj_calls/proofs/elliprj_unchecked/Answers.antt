-- `elliprj_unchecked` meets its contract: where the plan is done at once, it is what `positive` answers. Assumes nothing.
use mathlib.Core.Path.{◌≡◌, sym, ◌∙◌}
use mathlib.Core.Bool.{false}
use native.Mathlib.Omega.{arith}
use lib.Ieee.{Float, le}
use Rattle.carlson.specs.Constants.{zero as zero_above}
use Rattle.carlson_arguments.specs.Rescaling.{scale_of4, rescales4}
use Rattle.rj_positive.specs.Positive.{rj_positive}
use Rattle.rj_calls.specs.Run.{plan_unscaled, plan_scaled, plan_of, rj_run, rj_unchecked}
use Rattle.rj_calls.proofs.elliprj_unchecked.Goals as goal

at_once : (x y z p s : Float) → le p zero_above ≡ false → s ≡ scale_of4 x y z p → rescales4 x y z p s ≡ false
    → rj_positive x y z p ≡ rj_unchecked x y z p
unfolding rj_unchecked rj_run plan_of plan_scaled plan_unscaled
at_once x y z p s above e stays = rw (above, sym e, stays)

pub returns-then-p : goal.returns-then-p
unfolding rj_unchecked
returns-then-p c =
    c.call.ensures

pub returns-then-rescales4 : goal.returns-then-rescales4
unfolding rj_unchecked
returns-then-rescales4 c =
    c.call-then-rescales4.ensures

pub returns : goal.returns
unfolding rj_unchecked
returns c =
    c.positive.ensures
    ∙ at_once _ _ _ _ c.scale4.result c.if-p.false c.scale4.ensures
    (sym c.rescales4.ensures ∙ c.if-rescales4.false)
