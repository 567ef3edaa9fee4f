-- `passes_piece` meets its contract: the flag says which. Assumes nothing.
use Rattle.bench_write.specs.Pieces.{passes_piece}
use Rattle.bench_write.proofs.written_pieces.passes_piece.Goals as goal

pub returns-then-passes : goal.returns-then-passes
unfolding passes_piece
returns-then-passes c =
    rw c.if-passes.true

pub returns : goal.returns
unfolding passes_piece
returns c =
    rw c.if-passes.false
