-- `value_of` meets its contract, step by step as its definition. Assumes nothing.
use Rattle.rj_negative.specs.Reduction.{reduced_value}
use Rattle.rj_negative.proofs.reduction.value_of.Goals as goal

pub returns : goal.returns
unfolding reduced_value
returns c =
    cc
