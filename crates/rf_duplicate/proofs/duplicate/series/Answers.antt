-- `series` meets its contract, step by step as its definition. Assumes nothing.
use mathlib.Core.Path.{sym}
use Rattle.rf_duplicate.specs.Duplicate.{rf_series}
use Rattle.rf_duplicate.proofs.duplicate.series.Goals as goal

pub returns : goal.returns
unfolding rf_series
returns c =
    rw (
      sym c.correction.ensures,
      sym c.correction-2.ensures,
      sym c.factor.ensures,
      sym c.sqrt.ensures,
    )
