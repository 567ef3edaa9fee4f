-- `below` meets its contract, step by step as its definition. Assumes nothing.
use mathlib.Core.Path.{sym}
use Rattle.cel_passes.specs.Passes.{cel_below}
use Rattle.cel_passes.proofs.passes.below.Goals as goal

pub returns : goal.returns
unfolding cel_below
returns c =
    rw (sym c.sqrt.ensures) c.reduced.ensures
