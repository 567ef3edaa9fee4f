-- `next_means` meets its contract, step by step as its definition. Assumes nothing.
use mathlib.Core.Path.{sym}
use Rattle.elliprf.specs.Means.{rf_means_of}
use Rattle.elliprf.proofs.means.next_means.Goals as goal

pub returns : goal.returns
unfolding rf_means_of
returns c =
    rw (sym c.sqrt_ahead-t.ensures)
