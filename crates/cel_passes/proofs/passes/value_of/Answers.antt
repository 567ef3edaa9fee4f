-- `value_of` meets its contract, step by step as its definition. Assumes nothing.
use mathlib.Core.Path.{refl}
use Rattle.cel_passes.specs.Passes.{cel_value}
use Rattle.cel_passes.proofs.passes.value_of.Goals as goal

pub returns : goal.returns
unfolding cel_value
returns c =
    refl
