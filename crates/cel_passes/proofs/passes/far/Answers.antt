-- `far` meets its contract, step by step as its definition. Assumes nothing.
use mathlib.Core.Path.{sym}
use Rattle.cel_passes.specs.Passes.{cel_far}
use Rattle.cel_passes.proofs.passes.far.Goals as goal

pub returns : goal.returns
unfolding cel_far
returns c =
    rw (sym c.abs.ensures)
