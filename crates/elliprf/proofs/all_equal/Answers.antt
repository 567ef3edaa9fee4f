-- `all_equal` meets its contract, step by step as its definition. Assumes nothing.
use mathlib.Core.Path.{sym}
use Rattle.elliprf.specs.Rf.{rf_equal}
use Rattle.elliprf.proofs.all_equal.Goals as goal

pub returns : goal.returns
unfolding rf_equal
returns c =
    rw (sym c.sqrt.ensures, sym c.closed.ensures)
