-- `shape_of` meets its contract, case by case. Assumes nothing.
use Rattle.std.proofs.Common.{rules}
use Rattle.bench_write.specs.Texts.{shown_of, longest_of}
use Rattle.bench_write.specs.Pieces.{pieces_of, shape_of}
use Rattle.bench_write.proofs.said.shape_of.Goals as goal

pub returns-in-Weighed : goal.returns-in-Weighed
unfolding shape_of pieces_of shown_of longest_of
returns-in-Weighed c =
    rw c.in-Weighed.is

pub returns-in-NoVerdict : goal.returns-in-NoVerdict
unfolding shape_of pieces_of shown_of longest_of
returns-in-NoVerdict c =
    rw c.in-NoVerdict.is

pub returns-in-Decrement : goal.returns-in-Decrement
unfolding shape_of pieces_of shown_of longest_of
returns-in-Decrement c =
    rw c.in-Decrement.is

pub returns-in-NoDecrement : goal.returns-in-NoDecrement
unfolding shape_of pieces_of shown_of longest_of
returns-in-NoDecrement c =
    rw c.in-NoDecrement.is

pub returns-in-Bad : goal.returns-in-Bad
unfolding shape_of pieces_of shown_of longest_of
returns-in-Bad c =
    rw c.in-Bad.is

pub returns-in-Tallies : goal.returns-in-Tallies
unfolding shape_of pieces_of shown_of longest_of
returns-in-Tallies c =
    rw c.in-Tallies.is
