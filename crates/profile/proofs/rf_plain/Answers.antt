-- `rf_plain` meets its contract: its tests are those of the definition, in its order. Assumes nothing.
use mathlib.Core.Path.{sym, ◌∙◌}
use Rattle.profile.specs.Profile.{rf_plain}
use Rattle.profile.proofs.rf_plain.Goals as goal

pub returns-then-any_nan3 : goal.returns-then-any_nan3
unfolding rf_plain
returns-then-any_nan3 c =
    rw (sym c.any_nan3.ensures ∙ c.if-any_nan3.true)

pub returns-then-below3 : goal.returns-then-below3
unfolding rf_plain
returns-then-below3 c =
    rw (
      sym c.any_nan3.ensures ∙ c.if-any_nan3.false,
      sym c.below3.ensures ∙ c.if-below3.true,
    )

pub returns-then-zeros3 : goal.returns-then-zeros3
unfolding rf_plain
returns-then-zeros3 c =
    rw (
      sym c.any_nan3.ensures ∙ c.if-any_nan3.false,
      sym c.below3.ensures ∙ c.if-below3.false,
      sym c.zeros3.ensures ∙ c.if-zeros3.true,
    )

pub returns-then-sized3 : goal.returns-then-sized3
unfolding rf_plain
returns-then-sized3 c =
    rw (
      sym c.any_nan3.ensures ∙ c.if-any_nan3.false,
      sym c.below3.ensures ∙ c.if-below3.false,
      sym c.zeros3.ensures ∙ c.if-zeros3.false,
      sym c.sized3.ensures ∙ c.if-sized3.true,
    ) c.rf_upward.ensures

pub returns : goal.returns
unfolding rf_plain
returns c =
    rw (
      sym c.any_nan3.ensures ∙ c.if-any_nan3.false,
      sym c.below3.ensures ∙ c.if-below3.false,
      sym c.zeros3.ensures ∙ c.if-zeros3.false,
      sym c.sized3.ensures ∙ c.if-sized3.false,
    )
