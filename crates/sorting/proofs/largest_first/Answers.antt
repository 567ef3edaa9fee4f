-- `largest_first` meets its contract, step by step as its definition. Assumes nothing.
use mathlib.Core.Path.{sym}
use Rattle.sorting.specs.Sorting.{largest_first}
use Rattle.sorting.proofs.largest_first.Goals as goal

pub returns : goal.returns
unfolding largest_first
returns c =
    rw (sym c.fall_xy.ensures, sym c.fall_xz.ensures, sym c.rise_yz.ensures)
