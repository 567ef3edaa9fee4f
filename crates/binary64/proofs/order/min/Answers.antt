-- `min` meets its contract: its tests are those of the definition. Assumes nothing.
use Rattle.binary64.specs.Leaves.{minimum}
use Rattle.binary64.specs.Tests.{is_nan_lem, same_no_nan}
use Rattle.binary64.proofs.order.min.Goals as goal

pub returns-then-x : goal.returns-then-x
unfolding minimum
returns-then-x c =
    rw (is_nan_lem c.args.x c.if-x.true)

pub returns-then-y-x : goal.returns-then-y-x
unfolding minimum
returns-then-y-x c =
    rw (same_no_nan _ c.if-x.false, c.if-y-x.true)

pub returns : goal.returns
unfolding minimum
returns c =
    rw (same_no_nan _ c.if-x.false, c.if-y-x.false)
