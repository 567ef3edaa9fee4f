-- `fall_xy` meets its contract: its test is the definition's. Assumes nothing.
use Rattle.sorting.specs.Sorting.{fall_xy}
use Rattle.sorting.proofs.fall_xy.Goals as goal

pub returns-then-t : goal.returns-then-t
unfolding fall_xy
returns-then-t c =
    rw c.if-t.true

pub returns : goal.returns
unfolding fall_xy
returns c =
    rw c.if-t.false
