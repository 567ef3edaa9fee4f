-- `above` meets its contract, step by step as its definition. Assumes nothing.
use mathlib.Core.Path.{sym}
use Rattle.cel_passes.specs.Passes.{cel_above}
use Rattle.cel_passes.proofs.passes.above.Goals as goal

pub returns : goal.returns
unfolding cel_above
returns c =
    rw (sym c.sqrt-pp.ensures)
