-- `root::together::numbers4` meets its contract, step by step as its definition. Assumes nothing.
use Rattle.std.proofs.Common.{refl}
use Rattle.root.specs.Together.{numbers4}
use Rattle.root.proofs.together.numbers4.Goals as goal

pub returns : goal.returns
unfolding numbers4
returns c =
    refl
