-- `close` meets its contract, step by step as its definition. Assumes nothing.
use mathlib.Core.Path.{sym}
use Rattle.rf_duplicate.specs.Duplicate.{rf_close}
use Rattle.rf_duplicate.proofs.duplicate.close.Goals as goal

pub returns : goal.returns
unfolding rf_close
returns c =
    rw (sym c.abs.ensures)
