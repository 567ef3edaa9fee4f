-- `cases` meets its contract: its tests are those of the definition, in its order. Assumes nothing.
use Rattle.rj_positive.specs.Positive.{rj_cases}
use Rattle.rj_positive.proofs.positive.cases.Goals as goal

pub returns-then-y-z : goal.returns-then-y-z
unfolding rj_cases
returns-then-y-z c =
    rw c.if-y-z.true c.pair.ensures

pub returns : goal.returns
unfolding rj_cases
returns c =
    rw c.if-y-z.false c.last-a.ensures
