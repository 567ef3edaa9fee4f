-- `left_after` meets its contract: past the end nothing is left. Assumes nothing.
use native.Mathlib.Omega.{arith}
use Rattle.packed.specs.Writing.{left_after}
use Rattle.packed.proofs.write.left_after.Goals as goal

pub returns-then-length-place : goal.returns-then-length-place
unfolding left_after
returns-then-length-place c =
    omega arith

pub returns : goal.returns
unfolding left_after
returns c =
    omega arith
