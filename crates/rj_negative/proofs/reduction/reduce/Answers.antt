-- `reduce` meets its contract, step by step as its definition. Assumes nothing.
use mathlib.Core.Path.{refl}
use Rattle.rj_negative.specs.Reduction.{reduce_of}
use Rattle.rj_negative.proofs.reduction.reduce.Goals as goal

pub returns : goal.returns
unfolding reduce_of
returns c =
    refl
