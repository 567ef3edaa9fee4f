-- `quadratic` meets its contract, step by step as its definition. Assumes nothing.
use mathlib.Core.Path.{refl}
use Rattle.rj_near_zero.specs.NearZero.{quadratic_of}
use Rattle.rj_near_zero.proofs.nearzero.quadratic.Goals as goal

pub returns : goal.returns
unfolding quadratic_of
returns c =
    refl
