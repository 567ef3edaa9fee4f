-- `next_sums` meets its contract, step by step as its definition. Assumes nothing.
use mathlib.Core.Path.{sym}
use Rattle.rg_means.specs.Means.{rg_next}
use Rattle.rg_means.proofs.means.next_sums.Goals as goal

pub returns : goal.returns
unfolding rg_next
returns c =
    rw (sym c.sqrt_ahead.ensures, sym c.moved.ensures)
