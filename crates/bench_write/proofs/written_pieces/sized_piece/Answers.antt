-- `sized_piece` meets its contract, piece by piece. Assumes nothing.
use Rattle.std.proofs.Common.{ne_eqb}
use Rattle.bench_write.specs.Pieces.{sized_piece}
use Rattle.bench_write.proofs.written_pieces.sized_piece.Goals as goal

pub returns-in-0 : goal.returns-in-0
unfolding sized_piece
returns-in-0 c =
    rw c.in-0.is

pub returns-in-1 : goal.returns-in-1
unfolding sized_piece
returns-in-1 c =
    rw c.in-1.is

pub returns-in-2 : goal.returns-in-2
unfolding sized_piece
returns-in-2 c =
    rw c.in-2.is c.minus_piece.ensures

pub returns-in-3 : goal.returns-in-3
unfolding sized_piece
returns-in-3 c =
    rw c.in-3.is

pub returns-in-4 : goal.returns-in-4
unfolding sized_piece
returns-in-4 c =
    rw c.in-4.is

pub returns-in-5 : goal.returns-in-5
unfolding sized_piece
returns-in-5 c =
    rw c.in-5.is

pub returns-in_default : goal.returns-in_default
unfolding sized_piece
returns-in_default c =
    let r = c.in_default.in_default-own.rest in
    rw (
      ne_eqb _ _ r.0.0.0.0.0.1,
      ne_eqb _ _ r.0.0.0.0.1,
      ne_eqb _ _ r.0.0.0.1,
      ne_eqb _ _ r.0.0.1,
      ne_eqb _ _ r.0.1,
      ne_eqb _ _ r.1,
    )
