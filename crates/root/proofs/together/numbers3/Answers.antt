-- `root::together::numbers3` meets its contract, step by step as its definition. Assumes nothing.
use Rattle.std.proofs.Common.{refl}
use Rattle.root.specs.Together.{numbers3}
use Rattle.root.proofs.together.numbers3.Goals as goal

pub returns : goal.returns
unfolding numbers3
returns c =
    refl
