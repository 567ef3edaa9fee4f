-- `correction` meets its contract, step by step as its definition. Assumes nothing.
use mathlib.Core.Path.{refl}
use Rattle.rd_duplicate.specs.Duplicate.{rd_correction}
use Rattle.rd_duplicate.proofs.duplicate.correction.Goals as goal

pub returns : goal.returns
unfolding rd_correction
returns c =
    refl
