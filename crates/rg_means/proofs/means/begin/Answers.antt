-- `begin` meets its contract, step by step as its definition. Assumes nothing.
use mathlib.Core.Path.{sym}
use Rattle.rg_means.specs.Means.{rg_begin}
use Rattle.rg_means.proofs.means.begin.Goals as goal

pub returns : goal.returns
unfolding rg_begin
returns c =
    rw (sym c.mul_add.ensures)
