-- `factor` meets its contract, step by step as its definition. Assumes nothing.
use mathlib.Core.Path.{refl}
use Rattle.rf_duplicate.specs.Duplicate.{rf_factor}
use Rattle.rf_duplicate.proofs.duplicate.factor.Goals as goal

pub returns : goal.returns
unfolding rf_factor
returns c =
    refl
