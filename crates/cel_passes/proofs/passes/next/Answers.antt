-- `next` meets its contract, step by step as its definition. Assumes nothing.
use mathlib.Core.Path.{sym}
use Rattle.cel_passes.specs.Passes.{cel_next}
use Rattle.cel_passes.proofs.passes.next.Goals as goal

pub returns : goal.returns
unfolding cel_next
returns c =
    rw (sym c.sqrt_ahead.ensures, sym c.with_kc.ensures) c.pass.ensures
