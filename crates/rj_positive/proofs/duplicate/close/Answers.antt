-- `close` meets its contract, step by step as its definition. Assumes nothing.
use mathlib.Core.Path.{refl}
use Rattle.rj_positive.specs.Duplicate.{rj_close}
use Rattle.rj_positive.proofs.duplicate.close.Goals as goal

pub returns : goal.returns
unfolding rj_close
returns c =
    refl
