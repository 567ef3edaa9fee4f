-- `rest` meets its contract: its tests are those of the definition, in its order. Assumes nothing.
use mathlib.Core.Path.{sym, ◌∙◌}
use Rattle.elliprj.specs.Rj.{rj_rest}
use Rattle.elliprj.proofs.rest.Goals as goal

pub returns-then-below3 : goal.returns-then-below3
unfolding rj_rest
returns-then-below3 c =
    rw (sym c.below3.ensures ∙ c.if-below3.true)

pub returns-then-zeros3 : goal.returns-then-zeros3
unfolding rj_rest
returns-then-zeros3 c =
    rw (
      sym c.below3.ensures ∙ c.if-below3.false,
      sym c.zeros3.ensures ∙ c.if-zeros3.true,
    )

pub returns-then-any_infinite4 : goal.returns-then-any_infinite4
unfolding rj_rest
returns-then-any_infinite4 c =
    rw (
      sym c.below3.ensures ∙ c.if-below3.false,
      sym c.zeros3.ensures ∙ c.if-zeros3.false,
      sym c.any_infinite4.ensures ∙ c.if-any_infinite4.true,
    ) c.infinite.ensures

pub returns : goal.returns
unfolding rj_rest
returns c =
    rw (
      sym c.below3.ensures ∙ c.if-below3.false,
      sym c.zeros3.ensures ∙ c.if-zeros3.false,
      sym c.any_infinite4.ensures ∙ c.if-any_infinite4.false,
      sym c.elliprj_unchecked.ensures,
    ) c.settled.ensures
