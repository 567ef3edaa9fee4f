-- `rise_xy` meets its contract: its test is the definition's. Assumes nothing.
use Rattle.sorting.specs.Sorting.{rise_xy}
use Rattle.sorting.proofs.rise_xy.Goals as goal

pub returns-then-t : goal.returns-then-t
unfolding rise_xy
returns-then-t c =
    rw c.if-t.true

pub returns : goal.returns
unfolding rise_xy
returns c =
    rw c.if-t.false
