-- `steps` meets its contract, step by step as its definition. Assumes nothing.
use mathlib.Core.Path.{sym}
use Rattle.cel_passes.specs.Passes.{cel_steps}
use Rattle.cel_passes.proofs.passes.steps.Goals as goal

pub returns : goal.returns
unfolding cel_steps
returns c =
    rw (sym c.begin.ensures, sym c.pass.ensures) c.from.ensures
