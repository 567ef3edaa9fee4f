-- `quotient` meets its contract: numbers up to 2 ^ 53 are f64s as they stand. Assumes nothing.
use mathlib.Core.Path.{refl}
use Rattle.swing.specs.Period.{ratio}
use Rattle.decay.proofs.quotient.Goals as goal

pub returns : goal.returns
unfolding ratio
returns c =
    refl
