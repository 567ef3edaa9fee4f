-- `one_zero` meets its contract, step by step as its definition. Assumes nothing.
use mathlib.Core.Path.{sym}
use Rattle.elliprg.specs.Rg.{rg_zero}
use Rattle.elliprg.proofs.one_zero.Goals as goal

pub returns : goal.returns
unfolding rg_zero
returns c =
    rw (sym c.sqrt.ensures, sym c.closed.ensures)
