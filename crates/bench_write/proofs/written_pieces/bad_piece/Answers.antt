-- `bad_piece` meets its contract. Assumes nothing.
use Rattle.std.proofs.Common.{eq-eqb, ne_eqb}
use Rattle.bench_write.specs.Pieces.{bad_piece}
use Rattle.bench_write.proofs.written_pieces.bad_piece.Goals as goal

pub returns-then-i-eq0 : goal.returns-then-i-eq0
unfolding bad_piece
returns-then-i-eq0 c =
    rw (eq-eqb _ _ c.if-i-eq0.true)

pub returns : goal.returns
unfolding bad_piece
returns c =
    rw (ne_eqb _ _ c.if-i-eq0.false)
