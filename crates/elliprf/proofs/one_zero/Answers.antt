-- `one_zero` meets its contract, step by step as its definition. Assumes nothing.
use mathlib.Core.Path.{sym}
use Rattle.elliprf.specs.Rf.{rf_zero}
use Rattle.elliprf.proofs.one_zero.Goals as goal

pub returns : goal.returns
unfolding rf_zero
returns c =
    rw (sym c.sqrt.ensures, sym c.closed.ensures)
