-- `denominator` meets its contract, step by step as its definition. Assumes nothing.
use mathlib.Core.Path.{refl}
use Rattle.rj_positive.specs.Duplicate.{rj_denominator}
use Rattle.rj_positive.proofs.duplicate.denominator.Goals as goal

pub returns : goal.returns
unfolding rj_denominator
returns c =
    refl
