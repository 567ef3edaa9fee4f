-- `counted_of` meets its contract, case by case. Assumes nothing.
use Rattle.tally.specs.Tally.{counted_of}
use Rattle.std.proofs.Common.{sym, rules}
use Rattle.tally.proofs.counted.counted_of.Goals as goal

pub returns-in-Ok : goal.returns-in-Ok
unfolding counted_of
returns-in-Ok c =
    rw (c.in-Ok.is, sym c.split.ensures)

pub returns-in-Err : goal.returns-in-Err
unfolding counted_of
returns-in-Err c =
    rw (c.in-Err.is, sym c.number.ensures)
