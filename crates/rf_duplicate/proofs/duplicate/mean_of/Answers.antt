-- `mean_of` meets its contract, step by step as its definition. Assumes nothing.
use mathlib.Core.Path.{refl}
use Rattle.rf_duplicate.specs.Duplicate.{mean_of}
use Rattle.rf_duplicate.proofs.duplicate.mean_of.Goals as goal

pub returns : goal.returns
unfolding mean_of
returns c =
    refl
