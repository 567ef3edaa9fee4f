-- `share` meets its contract, step by step as its definition. Assumes nothing.
use mathlib.Core.Path.{refl}
use Rattle.rj_positive.specs.Duplicate.{share_of}
use Rattle.rj_positive.proofs.duplicate.share.Goals as goal

pub returns : goal.returns
unfolding share_of
returns c =
    refl
