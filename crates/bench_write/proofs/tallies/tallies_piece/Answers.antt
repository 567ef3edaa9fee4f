-- `tallies_piece` meets its contract, step by step as its definition. Assumes nothing.
use Rattle.std.proofs.Common.{sym}
use Rattle.bench_write.specs.Pieces.{tallies_piece}
use Rattle.bench_write.proofs.tallies.tallies_piece.Goals as goal

pub returns : goal.returns
unfolding tallies_piece
returns c =
    rw (sym c.count.ensures) c.count_piece.ensures
