-- `rj_plain` meets its contract: its tests are those of the definition, in its order. Assumes nothing.
use mathlib.Core.Path.{sym, ◌∙◌}
use Rattle.profile.specs.Profile.{rj_plain}
use Rattle.profile.proofs.rj_plain.Goals as goal

pub returns-then-any_nan4 : goal.returns-then-any_nan4
unfolding rj_plain
returns-then-any_nan4 c =
    rw (sym c.any_nan4.ensures ∙ c.if-any_nan4.true)

pub returns-then-p : goal.returns-then-p
unfolding rj_plain
returns-then-p c =
    rw (sym c.any_nan4.ensures ∙ c.if-any_nan4.false, c.if-p.true)

pub returns-then-below3 : goal.returns-then-below3
unfolding rj_plain
returns-then-below3 c =
    rw (
      sym c.any_nan4.ensures ∙ c.if-any_nan4.false,
      c.if-p.false,
      sym c.below3.ensures ∙ c.if-below3.true,
    )

pub returns-then-zeros3 : goal.returns-then-zeros3
unfolding rj_plain
returns-then-zeros3 c =
    rw (
      sym c.any_nan4.ensures ∙ c.if-any_nan4.false,
      c.if-p.false,
      sym c.below3.ensures ∙ c.if-below3.false,
      sym c.zeros3.ensures ∙ c.if-zeros3.true,
    )

pub returns-then-sized4 : goal.returns-then-sized4
unfolding rj_plain
returns-then-sized4 c =
    rw (
      sym c.any_nan4.ensures ∙ c.if-any_nan4.false,
      c.if-p.false,
      sym c.below3.ensures ∙ c.if-below3.false,
      sym c.zeros3.ensures ∙ c.if-zeros3.false,
      sym c.sized4.ensures ∙ c.if-sized4.true,
    ) c.rj_upward.ensures

pub returns : goal.returns
unfolding rj_plain
returns c =
    rw (
      sym c.any_nan4.ensures ∙ c.if-any_nan4.false,
      c.if-p.false,
      sym c.below3.ensures ∙ c.if-below3.false,
      sym c.zeros3.ensures ∙ c.if-zeros3.false,
      sym c.sized4.ensures ∙ c.if-sized4.false,
    )
