-- `ordered` meets its contract: its tests are those of the definition, in its order. Assumes nothing.
use Rattle.elliprd.specs.Rd.{rd_ordered}
use Rattle.elliprd.proofs.ordered.Goals as goal

pub returns-then-x-y : goal.returns-then-x-y
unfolding rd_ordered
returns-then-x-y c =
    rw (c.if-y-z.true, c.if-x-y.true) c.all_equal.ensures

pub returns-then-x : goal.returns-then-x
unfolding rd_ordered
returns-then-x c =
    rw (c.if-y-z.true, c.if-x-y.false, c.if-x.true) c.one_zero.ensures

pub returns-then-y-z : goal.returns-then-y-z
unfolding rd_ordered
returns-then-y-z c =
    rw (c.if-y-z.true, c.if-x-y.false, c.if-x.false) c.general-a.ensures

pub returns : goal.returns
unfolding rd_ordered
returns c =
    rw c.if-y-z.false c.general-a-2.ensures
