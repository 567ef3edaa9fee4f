-- `between` meets its contract. Assumes nothing.
use Rattle.std.proofs.Common.{arith}
use Rattle.steplog.specs.Steps.{advance_of}
use Rattle.steplog.proofs.between.Goals as goal

pub returns : goal.returns
unfolding advance_of
returns c =
    omega arith
