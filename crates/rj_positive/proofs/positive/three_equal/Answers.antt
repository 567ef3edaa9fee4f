-- `three_equal` meets its contract, step by step as its definition. Assumes nothing.
use mathlib.Core.Path.{sym}
use Rattle.rj_positive.specs.Positive.{rj_three}
use Rattle.rj_positive.proofs.positive.three_equal.Goals as goal

pub returns : goal.returns
unfolding rj_three
returns c =
    rw (
      sym c.elliprc_unchecked-rc.ensures,
      sym c.sqrt.ensures,
      sym c.carried.ensures,
    )
