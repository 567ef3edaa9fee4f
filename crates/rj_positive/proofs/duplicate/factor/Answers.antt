-- `factor` meets its contract, step by step as its definition. Assumes nothing.
use mathlib.Core.Path.{sym}
use Rattle.rj_positive.specs.Duplicate.{rj_factor}
use Rattle.rj_positive.proofs.duplicate.factor.Goals as goal

pub returns : goal.returns
unfolding rj_factor
returns c =
    rw (sym c.third_kind.ensures)
