-- `positive` meets its contract: its tests are those of the definition, in its order. Assumes nothing.
use mathlib.Core.Path.{sym, ◌∙◌}
use Rattle.rj_positive.specs.Positive.{rj_positive}
use Rattle.rj_positive.proofs.positive.positive.Goals as goal

pub returns-then-x-p : goal.returns-then-x-p
unfolding rj_positive
returns-then-x-p c =
    rw (c.if-x-y.true, c.if-x-z.true, c.if-x-p.true)
    c.all_equal.ensures

pub returns-then-well_apart : goal.returns-then-well_apart
unfolding rj_positive
returns-then-well_apart c =
    rw (
      c.if-x-y.true,
      c.if-x-z.true,
      c.if-x-p.false,
      sym c.well_apart.ensures ∙ c.if-well_apart.true,
    ) c.three_equal.ensures

pub returns-then-x-z : goal.returns-then-x-z
unfolding rj_positive
returns-then-x-z c =
    rw (
      c.if-x-y.true,
      c.if-x-z.true,
      c.if-x-p.false,
      sym c.well_apart.ensures ∙ c.if-well_apart.false,
    ) c.cases-a.ensures

pub returns-then-x-y : goal.returns-then-x-y
unfolding rj_positive
returns-then-x-y c =
    rw (c.if-x-y.true, c.if-x-z.false) c.cases-a-then-x-y.ensures

pub returns : goal.returns
unfolding rj_positive
returns c =
    rw c.if-x-y.false c.cases-a-2.ensures
