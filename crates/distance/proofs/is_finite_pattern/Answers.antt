-- `is_finite_pattern` meets its contract. Assumes nothing.
use mathlib.Core.Path.{refl}
use Rattle.distance.specs.Steps.{finite_pattern}
use Rattle.distance.proofs.is_finite_pattern.Goals as goal

pub returns : goal.returns
unfolding finite_pattern
returns c =
    refl
