-- `correction` meets its contract, step by step as its definition. Assumes nothing.
use mathlib.Core.Path.{refl}
use Rattle.rj_positive.specs.Duplicate.{rj_correction}
use Rattle.rj_positive.proofs.duplicate.correction.Goals as goal

pub returns : goal.returns
unfolding rj_correction
returns c =
    refl
