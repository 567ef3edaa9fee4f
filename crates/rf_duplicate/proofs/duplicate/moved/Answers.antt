-- `moved` meets its contract, step by step as its definition. Assumes nothing.
use mathlib.Core.Path.{refl}
use Rattle.rf_duplicate.specs.Duplicate.{rf_moved}
use Rattle.rf_duplicate.proofs.duplicate.moved.Goals as goal

pub returns : goal.returns
unfolding rf_moved
returns c =
    refl
