-- `alone` meets its contract, step by step as its definition. Assumes nothing.
use mathlib.Core.Path.{sym}
use Rattle.elliprg.specs.Rg.{rg_alone}
use Rattle.elliprg.proofs.alone.Goals as goal

pub returns : goal.returns
unfolding rg_alone
returns c =
    rw (sym c.sqrt.ensures, sym c.closed.ensures)
