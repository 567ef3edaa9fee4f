-- `mean_of` meets its contract, step by step as its definition. Assumes nothing.
use mathlib.Core.Path.{refl}
use Rattle.rd_duplicate.specs.Duplicate.{rd_mean}
use Rattle.rd_duplicate.proofs.duplicate.mean_of.Goals as goal

pub returns : goal.returns
unfolding rd_mean
returns c =
    refl
