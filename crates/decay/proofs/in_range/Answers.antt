-- `in_range` meets its contract: its tests are those of the definition, in its order. Assumes nothing.
use borrow.Author.Tests.{le-leb, lt-leb}
use Rattle.swing.specs.Period.{within}
use Rattle.decay.proofs.in_range.Goals as goal

pub returns-then-n-ge1 : goal.returns-then-n-ge1
unfolding within
returns-then-n-ge1 c =
    rw (le-leb _ _ c.if-n-ge1.true)

pub returns-else-n-ge1 : goal.returns-else-n-ge1
unfolding within
returns-else-n-ge1 c =
    rw (lt-leb _ _ c.if-n-ge1.false)
