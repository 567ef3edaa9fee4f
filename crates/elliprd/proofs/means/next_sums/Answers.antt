-- `next_sums` meets its contract, step by step as its definition. Assumes nothing.
use mathlib.Core.Path.{sym}
use Rattle.elliprd.specs.Means.{sums_of}
use Rattle.elliprd.proofs.means.next_sums.Goals as goal

pub returns : goal.returns
unfolding sums_of
returns c =
    rw (sym c.sqrt_ahead-t.ensures)
