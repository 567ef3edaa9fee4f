-- `with_kc` meets its contract, step by step as its definition. Assumes nothing.
use mathlib.Core.Path.{refl}
use Rattle.cel_passes.specs.Passes.{cel_with}
use Rattle.cel_passes.proofs.passes.with_kc.Goals as goal

pub returns : goal.returns
unfolding cel_with
returns c =
    refl
