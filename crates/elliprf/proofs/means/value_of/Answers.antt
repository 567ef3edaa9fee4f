-- `value_of` meets its contract, step by step as its definition. Assumes nothing.
use mathlib.Core.Path.{refl}
use Rattle.elliprf.specs.Means.{rf_agm_value}
use Rattle.elliprf.proofs.means.value_of.Goals as goal

pub returns : goal.returns
unfolding rf_agm_value
returns c =
    refl
