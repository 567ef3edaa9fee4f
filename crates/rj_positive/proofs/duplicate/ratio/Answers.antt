-- `ratio` meets its contract: its tests are those of the definition, in its order. Assumes nothing.
use mathlib.Core.Path.{sym}
use Rattle.rj_positive.specs.Duplicate.{rj_ratio}
use Rattle.rj_positive.proofs.duplicate.ratio.Goals as goal

pub returns-then-dn2 : goal.returns-then-dn2
unfolding rj_ratio
returns-then-dn2 c =
    rw c.if-dn2.true

pub returns : goal.returns
unfolding rj_ratio
returns c =
    rw (
      c.if-dn2.false,
      sym c.share.ensures,
      sym c.share-2.ensures,
      sym c.share-3.ensures,
    )
