-- `begin` meets its contract, step by step as its definition. Assumes nothing.
use mathlib.Core.Path.{sym}
use Rattle.rd_duplicate.specs.Duplicate.{rd_begin}
use Rattle.rd_duplicate.proofs.duplicate.begin.Goals as goal

pub returns : goal.returns
unfolding rd_begin
returns c =
    rw (sym c.mean_of-an.ensures, sym c.start_of.ensures)
