-- `series` meets its contract, step by step as its definition. Assumes nothing.
use mathlib.Core.Path.{sym}
use Rattle.rj_positive.specs.Duplicate.{rj_series}
use Rattle.rj_positive.proofs.duplicate.series.Goals as goal

pub returns : goal.returns
unfolding rj_series
returns c =
    rw (
      sym c.correction.ensures,
      sym c.correction-2.ensures,
      sym c.correction-3.ensures,
      sym c.factor-f.ensures,
      sym c.pow_neg_3_2.ensures,
    )
