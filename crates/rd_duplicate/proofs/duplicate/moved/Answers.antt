-- `moved` meets its contract, step by step as its definition. Assumes nothing.
use mathlib.Core.Path.{refl}
use Rattle.rd_duplicate.specs.Duplicate.{rd_moved}
use Rattle.rd_duplicate.proofs.duplicate.moved.Goals as goal

pub returns : goal.returns
unfolding rd_moved
returns c =
    refl
