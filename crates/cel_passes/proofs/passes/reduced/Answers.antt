-- `reduced` meets its contract, step by step as its definition. Assumes nothing.
use mathlib.Core.Path.{refl}
use Rattle.cel_passes.specs.Passes.{cel_reduced}
use Rattle.cel_passes.proofs.passes.reduced.Goals as goal

pub returns : goal.returns
unfolding cel_reduced
returns c =
    refl
