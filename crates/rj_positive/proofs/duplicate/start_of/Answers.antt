-- `start_of` meets its contract, step by step as its definition. Assumes nothing.
use mathlib.Core.Path.{sym}
use Rattle.rj_positive.specs.Duplicate.{rj_start}
use Rattle.rj_positive.proofs.duplicate.start_of.Goals as goal

pub returns : goal.returns
unfolding rj_start
returns c =
    rw (
      sym c.abs.ensures,
      sym c.abs-2.ensures,
      sym c.max.ensures,
      sym c.abs-3.ensures,
      sym c.max-2.ensures,
      sym c.abs-4.ensures,
      sym c.max-3.ensures,
    )
