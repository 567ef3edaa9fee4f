-- `no_verdict_piece` meets its contract, piece by piece. Assumes nothing.
use Rattle.std.proofs.Common.{ne_eqb}
use Rattle.bench_write.specs.Pieces.{no_verdict_piece}
use Rattle.bench_write.proofs.written_pieces.no_verdict_piece.Goals as goal

pub returns-in-0 : goal.returns-in-0
unfolding no_verdict_piece
returns-in-0 c =
    rw c.in-0.is

pub returns-in-1 : goal.returns-in-1
unfolding no_verdict_piece
returns-in-1 c =
    rw c.in-1.is

pub returns-in-2 : goal.returns-in-2
unfolding no_verdict_piece
returns-in-2 c =
    rw c.in-2.is

pub returns-in_default : goal.returns-in_default
unfolding no_verdict_piece
returns-in_default c =
    rw (ne_eqb _ _ c.in_default.in_default-own.rest.0.0.1, ne_eqb _ _ c.in_default.in_default-own.rest.0.1, ne_eqb _ _ c.in_default.in_default-own.rest.1)
