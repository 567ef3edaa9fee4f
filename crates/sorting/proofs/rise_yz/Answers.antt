-- `rise_yz` meets its contract: its test is the definition's. Assumes nothing.
use Rattle.sorting.specs.Sorting.{rise_yz}
use Rattle.sorting.proofs.rise_yz.Goals as goal

pub returns-then-t : goal.returns-then-t
unfolding rise_yz
returns-then-t c =
    rw c.if-t.true

pub returns : goal.returns
unfolding rise_yz
returns c =
    rw c.if-t.false
