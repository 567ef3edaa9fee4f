-- `plus_zero` meets its contract: its test is the definition's. Assumes nothing.
use Rattle.profile_arguments.specs.Arguments.{plus_zero}
use Rattle.profile_arguments.proofs.plus_zero.Goals as goal

pub returns-then-x : goal.returns-then-x
unfolding plus_zero
returns-then-x c =
    rw c.if-x.true

pub returns : goal.returns
unfolding plus_zero
returns c =
    rw c.if-x.false
