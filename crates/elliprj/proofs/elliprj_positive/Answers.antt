-- `elliprj_positive` meets its contract: within the door no test of the definition says yes, and the plan is to be done at once;
-- else step by step as its definition. Assumes nothing.
use mathlib.Core.Path.{◌≡◌, sym, ap, ◌∙◌}
use mathlib.Core.Bool.{true}
use lib.Ieee.{Float}
use Rattle.carlson.specs.Answer.{Answer}
use Rattle.carlson_arguments.specs.Door.{moderate4}
use Rattle.carlson_arguments.proofs.DoorLaws.{no_nan4, none_infinite4, not_rescaled4}
use Rattle.carlson_arguments.proofs.DoorLaws.{Inside3, Moderate, Inside4, inside4, not_le_zero, none_below3, no_zeros3}
use Rattle.rj_positive.specs.Positive.{rj_positive}
use Rattle.rj_calls.specs.declared.plan.Plan.TheVariants.{Done}
use Rattle.elliprj.specs.Rj.{rj_settled, rj_rest, rj_signed}
use Rattle.rj_calls.specs.Run.{plan_unscaled, plan_scaled, plan_of, rj_run, rj_unchecked}
use Rattle.elliprj.specs.Rj.{rj_of_positive}
use Rattle.elliprj.proofs.elliprj_positive.Goals as goal

module _ {x y z p : Float} (i : Inside3 x y z) (P : Moderate p) where
  done : plan_of x y z p ≡ Done (rj_positive x y z p)
  unfolding plan_of plan_scaled plan_unscaled
  done = rw (not_le_zero P, not_rescaled4 i P)

  at_once : rj_unchecked x y z p ≡ rj_positive x y z p
  unfolding rj_unchecked rj_run
  at_once = rw done

  within : rj_settled (rj_positive x y z p) ≡ rj_of_positive x y z p
  unfolding rj_of_positive rj_signed rj_rest
  within = rw (no_nan4 i P, P.not_zero, P.not_below, none_below3 i, no_zeros3 i, none_infinite4 i P, at_once)

told : (x y z p : Float) → moderate4 x y z p ≡ true → rj_settled (rj_positive x y z p) ≡ rj_of_positive x y z p
told x y z p h = let i = inside4 x y z p h in within i.three i.last

pub returns-then-moderate4 : goal.returns-then-moderate4
unfolding rj_of_positive
returns-then-moderate4 c =
    let a = c.args in
    c.settled.ensures ∙ ap (λ (f : Answer). rj_settled f) c.positive.ensures
    ∙ told a.x a.y a.z a.p (sym c.moderate4.ensures ∙ c.if-moderate4.true)

pub returns : goal.returns
unfolding rj_of_positive
returns c =
    c.signed.ensures
