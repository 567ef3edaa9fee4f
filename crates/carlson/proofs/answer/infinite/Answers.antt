-- `infinite` meets its contract: what it hands out is the definition's. Assumes nothing.
use Rattle.std.proofs.Common.{refl}
use Rattle.carlson.specs.Answer.{infinite_at}
use Rattle.carlson.proofs.answer.infinite.Goals as goal

pub returns : goal.returns
unfolding infinite_at
returns c =
    rw c.infinite_found.ensures refl
