-- `third_kind` meets its contract, step by step as its definition. Assumes nothing.
use Rattle.std.proofs.Common.{refl}
use Rattle.carlson.specs.Common.{third_kind}
use Rattle.carlson.proofs.common.third_kind.Goals as goal

pub returns : goal.returns
unfolding third_kind
returns c =
    refl
