-- `log_from` meets its contract. Assumes nothing.
use Rattle.std.proofs.Common.{refl}
use Rattle.steplog.specs.Steps.{log_from}
use Rattle.steplog.proofs.log_from.Goals as goal

pub returns : goal.returns
unfolding log_from
returns c =
    refl
