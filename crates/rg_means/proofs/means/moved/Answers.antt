-- `moved` meets its contract, step by step as its definition. Assumes nothing.
use mathlib.Core.Path.{refl}
use Rattle.rg_means.specs.Means.{rg_moved}
use Rattle.rg_means.proofs.means.moved.Goals as goal

pub returns : goal.returns
unfolding rg_moved
returns c =
    refl
