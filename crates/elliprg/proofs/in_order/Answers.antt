-- `in_order` meets its contract: its tests are those of the definition, in its order. Assumes nothing.
use Rattle.std.proofs.Common.{Ok}
use mathlib.Core.Path.{ap}
use Rattle.elliprg.specs.Rg.{rg_sorted}
use Rattle.elliprg.proofs.in_order.Goals as goal

pub returns-then-x-z : goal.returns-then-x-z
unfolding rg_sorted
returns-then-x-z c =
    rw c.if-x-z.true c.top_equal.ensures

pub returns-then-y-z : goal.returns-then-y-z
unfolding rg_sorted
returns-then-y-z c =
    rw (c.if-x-z.false, c.if-y-z.true) c.low_equal.ensures

pub returns-then-y : goal.returns-then-y
unfolding rg_sorted
returns-then-y c =
    rw (c.if-x-z.false, c.if-y-z.false, c.if-y.true) c.agm_of.ensures

pub returns : goal.returns
unfolding rg_sorted
returns c =
    rw (c.if-x-z.false, c.if-y-z.false, c.if-y.false)
    (ap Ok c.joined.ensures)
