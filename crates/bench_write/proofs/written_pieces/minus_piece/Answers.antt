-- `minus_piece` meets its contract: the pattern says which. Assumes nothing.
use Rattle.std.proofs.Common.{le-leb}
use borrow.Author.Tests.{lt-leb}
use Rattle.bench_write.specs.Pieces.{minus_piece}
use Rattle.bench_write.proofs.written_pieces.minus_piece.Goals as goal

pub returns-then-bits-ge-SIGN : goal.returns-then-bits-ge-SIGN
unfolding minus_piece
returns-then-bits-ge-SIGN c =
    rw (le-leb _ _ c.if-bits-ge-SIGN.true)

pub returns : goal.returns
unfolding minus_piece
returns c =
    rw (lt-leb _ _ c.if-bits-ge-SIGN.false)
