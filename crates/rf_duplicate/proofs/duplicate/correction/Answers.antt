-- `correction` meets its contract, step by step as its definition. Assumes nothing.
use mathlib.Core.Path.{refl}
use Rattle.rf_duplicate.specs.Duplicate.{rf_correction}
use Rattle.rf_duplicate.proofs.duplicate.correction.Goals as goal

pub returns : goal.returns
unfolding rf_correction
returns c =
    refl
