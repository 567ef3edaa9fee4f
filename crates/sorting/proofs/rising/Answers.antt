-- `rising` meets its contract, step by step as its definition. Assumes nothing.
use mathlib.Core.Path.{sym}
use Rattle.sorting.specs.Sorting.{rising}
use Rattle.sorting.proofs.rising.Goals as goal

pub returns : goal.returns
unfolding rising
returns c =
    rw (sym c.rise_xy.ensures, sym c.rise_yz.ensures, sym c.rise_xy-2.ensures)
