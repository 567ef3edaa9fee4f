-- `begin` meets its contract, branch by branch. Assumes nothing.
use mathlib.Core.Path.{sym}
use Rattle.cel_passes.specs.Passes.{cel_begin}
use Rattle.cel_passes.proofs.passes.begin.Goals as goal

pub returns-then-p : goal.returns-then-p
unfolding cel_begin
returns-then-p c =
    rw (c.if-p.true, sym c.abs.ensures) c.above.ensures

pub returns : goal.returns
unfolding cel_begin
returns c =
    rw (c.if-p.false, sym c.abs-2.ensures) c.below.ensures
