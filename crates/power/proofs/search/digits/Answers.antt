-- `power::search::digits` meets its contract.
-- Assumes nothing.
use Rattle.std.proofs.Common.{arith}
use Rattle.rounding.specs.Cut.{reached}
use Rattle.power.proofs.search.digits.Goals as goal

pub loop-turn-init : goal.loop-turn-init
unfolding reached
loop-turn-init c =
    (omega arith, tt, tt)
