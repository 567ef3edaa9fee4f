-- `value_of` meets its contract, step by step as its definition. Assumes nothing.
use mathlib.Core.Path.{refl}
use Rattle.elliprd.specs.Means.{rd_mean_value}
use Rattle.elliprd.proofs.means.value_of.Goals as goal

pub returns : goal.returns
unfolding rd_mean_value
returns c =
    refl
