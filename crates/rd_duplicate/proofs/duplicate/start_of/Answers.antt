-- `start_of` meets its contract, step by step as its definition. Assumes nothing.
use mathlib.Core.Path.{sym}
use Rattle.rd_duplicate.specs.Duplicate.{rd_start}
use Rattle.rd_duplicate.proofs.duplicate.start_of.Goals as goal

pub returns : goal.returns
unfolding rd_start
returns c =
    rw (sym c.max.ensures, sym c.max-2.ensures)
