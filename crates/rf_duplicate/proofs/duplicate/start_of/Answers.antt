-- `start_of` meets its contract, step by step as its definition. Assumes nothing.
use mathlib.Core.Path.{sym}
use Rattle.rf_duplicate.specs.Duplicate.{rf_start}
use Rattle.rf_duplicate.proofs.duplicate.start_of.Goals as goal

pub returns : goal.returns
unfolding rf_start
returns c =
    rw (
      sym c.abs.ensures,
      sym c.abs-2.ensures,
      sym c.max.ensures,
      sym c.abs-3.ensures,
      sym c.max-2.ensures,
      sym c.abs-4.ensures,
      sym c.max-3.ensures,
    )
