-- `close` meets its contract, step by step as its definition. Assumes nothing.
use mathlib.Core.Path.{refl}
use Rattle.rd_duplicate.specs.Duplicate.{rd_close}
use Rattle.rd_duplicate.proofs.duplicate.close.Goals as goal

pub returns : goal.returns
unfolding rd_close
returns c =
    refl
