-- `last` meets its contract: its tests are those of the definition, in its order. Assumes nothing.
use Rattle.std.proofs.Common.{Ok}
use mathlib.Core.Path.{ap}
use Rattle.rj_positive.specs.Positive.{rj_last}
use Rattle.rj_positive.proofs.positive.last.Goals as goal

pub returns-then-z-p : goal.returns-then-z-p
unfolding rj_last
returns-then-z-p c =
    rw c.if-z-p.true c.elliprd_unchecked-a.ensures

pub returns : goal.returns
unfolding rj_last
returns c =
    rw c.if-z-p.false (ap Ok c.duplicated-found.ensures)
