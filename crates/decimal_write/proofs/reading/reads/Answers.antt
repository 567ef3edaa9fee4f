-- `reads` meets its contract: the bits are compared. Assumes nothing.
use mathlib.Core.Path.{sym}
use Rattle.decimal_short.specs.Shortest.{reads}
use Rattle.decimal_write.proofs.reading.reads.Goals as goal

pub returns : goal.returns
unfolding reads
returns c =
    rw (sym c.nearest.ensures, sym c.split.ensures, sym c.split-2.ensures)
