-- `series` meets its contract, step by step as its definition. Assumes nothing.
use mathlib.Core.Path.{sym}
use Rattle.rd_duplicate.specs.Duplicate.{rd_series}
use Rattle.rd_duplicate.proofs.duplicate.series.Goals as goal

pub returns : goal.returns
unfolding rd_series
returns c =
    rw (
      sym c.correction.ensures,
      sym c.correction-2.ensures,
      sym c.factor-f.ensures,
      sym c.pow_neg_3_2.ensures,
    )
