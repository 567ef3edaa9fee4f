-- `pair` meets its contract: its tests are those of the definition, in its order. Assumes nothing.
use mathlib.Core.Path.{sym, ◌∙◌}
use Rattle.rj_positive.specs.Positive.{rj_pair}
use Rattle.rj_positive.proofs.positive.pair.Goals as goal

pub returns-then-y-p : goal.returns-then-y-p
unfolding rj_pair
returns-then-y-p c =
    rw c.if-y-p.true c.elliprd_unchecked-a.ensures

pub returns-then-x-max : goal.returns-then-x-max
unfolding rj_pair
returns-then-x-max c =
    rw (
      c.if-y-p.false,
      sym c.well_apart.ensures ∙ c.if-well_apart.true,
      sym c.max.ensures,
      c.if-x-max.true,
    ) c.two_equal.ensures

pub returns-then-well_apart : goal.returns-then-well_apart
unfolding rj_pair
returns-then-well_apart c =
    rw (
      c.if-y-p.false,
      sym c.well_apart.ensures ∙ c.if-well_apart.true,
      sym c.max.ensures,
      c.if-x-max.false,
    ) c.last-a.ensures

pub returns : goal.returns
unfolding rj_pair
returns c =
    rw (c.if-y-p.false, sym c.well_apart.ensures ∙ c.if-well_apart.false)
    c.last-a-2.ensures
