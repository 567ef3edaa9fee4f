-- `max` meets its contract: its tests are those of the definition. Assumes nothing.
use Rattle.binary64.specs.Leaves.{maximum}
use Rattle.binary64.specs.Tests.{is_nan_lem, same_no_nan}
use Rattle.binary64.proofs.order.max.Goals as goal

pub returns-then-x : goal.returns-then-x
unfolding maximum
returns-then-x c =
    rw (is_nan_lem c.args.x c.if-x.true)

pub returns-then-x-y : goal.returns-then-x-y
unfolding maximum
returns-then-x-y c =
    rw (same_no_nan _ c.if-x.false, c.if-x-y.true)

pub returns : goal.returns
unfolding maximum
returns c =
    rw (same_no_nan _ c.if-x.false, c.if-x-y.false)
