-- `piece_at` meets its contract, case by case. Assumes nothing.
use Rattle.std.proofs.Common.{sym}
use Rattle.std.proofs.Common.{rules}
use Rattle.bench_write.specs.Pieces.{piece_of}
use Rattle.bench_write.proofs.said.piece_at.Goals as goal

pub returns-in-Weighed : goal.returns-in-Weighed
unfolding piece_of
returns-in-Weighed c =
    rw c.in-Weighed.is c.weighed_piece.ensures

pub returns-in-NoVerdict : goal.returns-in-NoVerdict
unfolding piece_of
returns-in-NoVerdict c =
    rw (c.in-NoVerdict.is, sym c.number.ensures) c.no_verdict_piece.ensures

pub returns-in-Decrement : goal.returns-in-Decrement
unfolding piece_of
returns-in-Decrement c =
    rw c.in-Decrement.is c.decrement_piece.ensures

pub returns-in-NoDecrement : goal.returns-in-NoDecrement
unfolding piece_of
returns-in-NoDecrement c =
    rw (c.in-NoDecrement.is, sym c.number-in-NoDecrement.ensures) c.count_piece.ensures

pub returns-in-Bad : goal.returns-in-Bad
unfolding piece_of
returns-in-Bad c =
    rw c.in-Bad.is c.bad_piece.ensures

pub returns-in-Tallies : goal.returns-in-Tallies
unfolding piece_of
returns-in-Tallies c =
    rw c.in-Tallies.is c.tallies_piece.ensures
