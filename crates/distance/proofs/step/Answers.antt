-- `step` meets its contract, by the pattern's sign. Assumes nothing.
use native.Mathlib.Omega.{arith}
use borrow.Author.Tests.{lt-leb, le-leb}
use Rattle.distance.specs.Steps.{step_of}
use Rattle.distance.proofs.step.Goals as goal

pub returns-then-b-lt-ZERO : goal.returns-then-b-lt-ZERO
unfolding step_of
returns-then-b-lt-ZERO c =
    rw (lt-leb _ _ c.if-b-lt-ZERO.true) (omega arith)

pub returns : goal.returns
unfolding step_of
returns c =
    rw (le-leb _ _ c.if-b-lt-ZERO.false) (omega arith)
