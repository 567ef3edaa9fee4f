-- `decrement_piece` meets its contract, step by step as its definition. Assumes nothing.
use Rattle.std.proofs.Common.{sym}
use Rattle.bench_write.specs.Pieces.{decrement_piece}
use Rattle.bench_write.proofs.written_pieces.decrement_piece.Goals as goal

pub returns : goal.returns
unfolding decrement_piece
returns c =
    rw (sym c.split.ensures, sym c.ticks.ensures) c.sized_piece.ensures
