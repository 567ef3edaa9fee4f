-- `all_equal` meets its contract, step by step as its definition. Assumes nothing.
use mathlib.Core.Path.{sym}
use Rattle.rj_positive.specs.Positive.{rj_all}
use Rattle.rj_positive.proofs.positive.all_equal.Goals as goal

pub returns : goal.returns
unfolding rj_all
returns c =
    rw (sym c.sqrt.ensures, sym c.closed.ensures)
