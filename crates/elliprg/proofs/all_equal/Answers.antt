-- `all_equal` meets its contract, step by step as its definition. Assumes nothing.
use mathlib.Core.Path.{sym}
use Rattle.elliprg.specs.Rg.{rg_equal}
use Rattle.elliprg.proofs.all_equal.Goals as goal

pub returns : goal.returns
unfolding rg_equal
returns c =
    rw (sym c.sqrt.ensures, sym c.closed.ensures)
