-- `begin` meets its contract, step by step as its definition. Assumes nothing.
use mathlib.Core.Path.{sym}
use Rattle.rj_positive.specs.Duplicate.{rj_begin}
use Rattle.rj_positive.proofs.duplicate.begin.Goals as goal

pub returns : goal.returns
unfolding rj_begin
returns c =
    rw (sym c.mean_of.ensures)
