-- `moved` meets its contract, step by step as its definition. Assumes nothing.
use mathlib.Core.Path.{refl}
use Rattle.cel_passes.specs.Passes.{cel_moved}
use Rattle.cel_passes.proofs.passes.moved.Goals as goal

pub returns : goal.returns
unfolding cel_moved
returns c =
    refl
