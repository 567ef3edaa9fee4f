-- `well_apart` meets its contract, step by step as its definition. Assumes nothing.
use mathlib.Core.Path.{sym}
use Rattle.rj_positive.specs.Positive.{well_apart}
use Rattle.rj_positive.proofs.positive.well_apart.Goals as goal

pub returns : goal.returns
unfolding well_apart
returns c =
    rw (sym c.max.ensures, sym c.min.ensures)
