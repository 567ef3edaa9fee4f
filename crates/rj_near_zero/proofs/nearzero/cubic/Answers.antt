-- `cubic` meets its contract, step by step as its definition. Assumes nothing.
use mathlib.Core.Path.{refl}
use Rattle.rj_near_zero.specs.NearZero.{cubic_of}
use Rattle.rj_near_zero.proofs.nearzero.cubic.Goals as goal

pub returns : goal.returns
unfolding cubic_of
returns c =
    refl
