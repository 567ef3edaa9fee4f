-- `begin` meets its contract, step by step as its definition. Assumes nothing.
use mathlib.Core.Path.{sym}
use Rattle.rf_duplicate.specs.Duplicate.{rf_begin}
use Rattle.rf_duplicate.proofs.duplicate.begin.Goals as goal

pub returns : goal.returns
unfolding rf_begin
returns c =
    rw (sym c.mean_of-an.ensures, sym c.start_of.ensures)
