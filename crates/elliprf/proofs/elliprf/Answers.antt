-- `elliprf` meets its contract: within the door no test of the definition says yes; else its tests are those of the definition,
-- in its order. Assumes nothing.
use Rattle.refusals.specs.declared.Refusal.TheVariants.{NoResult}
use mathlib.Core.Path.{◌≡◌, refl, sym, ap, ◌∙◌}
use mathlib.Core.Bool.{true}
use lib.Ieee.{Float}
use Rattle.carlson.specs.Answer.{settled}
use Rattle.carlson.proofs.AnswerLaws.{handed_itself}
use Rattle.carlson.specs.declared.answer.Found.{Found}
use Rattle.carlson_arguments.specs.Door.{moderate3}
use Rattle.carlson_arguments.proofs.DoorLaws.{inside3, no_nan3, none_below3, no_zeros3, none_infinite3, unscaled3}
use Rattle.elliprc.specs.Rc.{over_root}
use Rattle.elliprf.specs.Rf.{rf_steps, rf_unchecked, rf}
use Rattle.elliprf.proofs.elliprf.Goals as goal

within : (x y z : Float) → moderate3 x y z ≡ true → settled (rf_steps x y z) NoResult ≡ rf x y z
unfolding rf rf_unchecked
within x y z h =
    let i = inside3 x y z h in
    rw (no_nan3 i, none_below3 i, no_zeros3 i, none_infinite3 i, unscaled3 i over_root rf_steps)

pub returns-then-moderate3 : goal.returns-then-moderate3
unfolding rf
returns-then-moderate3 c =
    let a = c.args in
    c.settle.ensures
    ∙ ap (λ (f : Found). settled f NoResult) (c.handed.ensures ∙ handed_itself _ ∙ c.steps-found.ensures)
    ∙ within a.x a.y a.z (sym c.moderate3.ensures ∙ c.if-moderate3.true)

pub returns-then-any_nan3 : goal.returns-then-any_nan3
unfolding rf
returns-then-any_nan3 c =
    rw (sym c.any_nan3.ensures ∙ c.if-any_nan3.true)

pub returns-then-below3 : goal.returns-then-below3
unfolding rf
returns-then-below3 c =
    rw (
      sym c.any_nan3.ensures ∙ c.if-any_nan3.false,
      sym c.below3.ensures ∙ c.if-below3.true,
    )

pub returns-then-zeros3 : goal.returns-then-zeros3
unfolding rf
returns-then-zeros3 c =
    rw (
      sym c.any_nan3.ensures ∙ c.if-any_nan3.false,
      sym c.below3.ensures ∙ c.if-below3.false,
      sym c.zeros3.ensures ∙ c.if-zeros3.true,
    )

pub returns-then-any_infinite3 : goal.returns-then-any_infinite3
unfolding rf
returns-then-any_infinite3 c =
    rw (
      sym c.any_nan3.ensures ∙ c.if-any_nan3.false,
      sym c.below3.ensures ∙ c.if-below3.false,
      sym c.zeros3.ensures ∙ c.if-zeros3.false,
      sym c.any_infinite3.ensures ∙ c.if-any_infinite3.true,
    ) c.infinite.ensures

pub returns : goal.returns
unfolding rf
returns c =
    rw (
      sym c.any_nan3.ensures ∙ c.if-any_nan3.false,
      sym c.below3.ensures ∙ c.if-below3.false,
      sym c.zeros3.ensures ∙ c.if-zeros3.false,
      sym c.any_infinite3.ensures ∙ c.if-any_infinite3.false,
      sym c.elliprf_unchecked.ensures,
    ) c.settle-2.ensures
