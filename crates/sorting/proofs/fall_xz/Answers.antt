-- `fall_xz` meets its contract: its test is the definition's. Assumes nothing.
use Rattle.sorting.specs.Sorting.{fall_xz}
use Rattle.sorting.proofs.fall_xz.Goals as goal

pub returns-then-t : goal.returns-then-t
unfolding fall_xz
returns-then-t c =
    rw c.if-t.true

pub returns : goal.returns
unfolding fall_xz
returns c =
    rw c.if-t.false
