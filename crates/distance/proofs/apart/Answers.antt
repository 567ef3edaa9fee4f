-- `apart` meets its contract: the smaller step number is taken from the larger. Assumes nothing.
use native.Mathlib.Omega.{arith}
use Rattle.distance.specs.Steps.{gap, apart_of}
use Rattle.distance.proofs.apart.Goals as goal

pub returns-then-s-t : goal.returns-then-s-t
unfolding apart_of gap
returns-then-s-t c =
    omega (arith, c.step-t.ensures, c.step-s.ensures)

pub returns : goal.returns
unfolding apart_of gap
returns c =
    omega (arith, c.step-t.ensures, c.step-s.ensures)
