-- `low_equal` meets its contract: its tests are those of the definition, in its order. Assumes nothing.
use Rattle.elliprg.specs.Rg.{rg_low}
use Rattle.elliprg.proofs.low_equal.Goals as goal

pub returns-then-y : goal.returns-then-y
unfolding rg_low
returns-then-y c =
    rw c.if-y.true c.alone.ensures

pub returns : goal.returns
unfolding rg_low
returns c =
    rw c.if-y.false c.two_equal.ensures
