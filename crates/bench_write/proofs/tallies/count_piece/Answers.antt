-- `count_piece` meets its contract, piece by piece. Assumes nothing.
use Rattle.std.proofs.Common.{ne_eqb}
use Rattle.bench_write.specs.Pieces.{count_piece}
use Rattle.bench_write.proofs.tallies.count_piece.Goals as goal

pub returns-in-0 : goal.returns-in-0
unfolding count_piece
returns-in-0 c =
    rw c.in-0.is c.label.ensures

pub returns-in-1 : goal.returns-in-1
unfolding count_piece
returns-in-1 c =
    rw c.in-1.is

pub returns-in_default : goal.returns-in_default
unfolding count_piece
returns-in_default c =
    rw (ne_eqb _ _ c.in_default.in_default-own.rest.0.1, ne_eqb _ _ c.in_default.in_default-own.rest.1)
