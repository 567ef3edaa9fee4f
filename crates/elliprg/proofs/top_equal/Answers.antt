-- `top_equal` meets its contract: its tests are those of the definition, in its order. Assumes nothing.
use Rattle.elliprg.specs.Rg.{rg_top}
use Rattle.elliprg.proofs.top_equal.Goals as goal

pub returns-then-y-z : goal.returns-then-y-z
unfolding rg_top
returns-then-y-z c =
    rw c.if-y-z.true c.all_equal.ensures

pub returns-then-y : goal.returns-then-y
unfolding rg_top
returns-then-y c =
    rw (c.if-y-z.false, c.if-y.true) c.one_zero.ensures

pub returns : goal.returns
unfolding rg_top
returns c =
    rw (c.if-y-z.false, c.if-y.false) c.two_equal.ensures
