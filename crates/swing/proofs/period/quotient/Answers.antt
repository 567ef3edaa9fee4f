-- `quotient` meets its contract: numbers so small are f64s as they stand. Assumes nothing.
use Prim.Native.Nat.{ℕ, ◌≤◌}
use mathlib.Core.Path.{refl}
use native.Mathlib.Omega.{arith}
use lib.Dec.{T, le→leb}
use lib.IntN.{pos}
use lib.Ieee.{binary64, in_float}
use Rattle.swing.specs.Period.{ratio}
use Rattle.swing.proofs.period.quotient.Goals as goal

pub returns : goal.returns
unfolding ratio
returns c =
    refl
