-- `value_of` meets its contract, step by step as its definition. Assumes nothing.
use mathlib.Core.Path.{refl}
use Rattle.rg_means.specs.Means.{rg_mean_value}
use Rattle.rg_means.proofs.means.value_of.Goals as goal

pub returns : goal.returns
unfolding rg_mean_value
returns c =
    refl
