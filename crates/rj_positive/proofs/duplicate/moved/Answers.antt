-- `moved` meets its contract, step by step as its definition. Assumes nothing.
use mathlib.Core.Path.{refl}
use Rattle.rj_positive.specs.Duplicate.{rj_moved}
use Rattle.rj_positive.proofs.duplicate.moved.Goals as goal

pub returns : goal.returns
unfolding rj_moved
returns c =
    refl
