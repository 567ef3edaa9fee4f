-- `mean_of` meets its contract, step by step as its definition. Assumes nothing.
use mathlib.Core.Path.{refl}
use Rattle.rj_positive.specs.Duplicate.{rj_mean}
use Rattle.rj_positive.proofs.duplicate.mean_of.Goals as goal

pub returns : goal.returns
unfolding rj_mean
returns c =
    refl
