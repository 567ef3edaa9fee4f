-- `start_row` meets its contract: the flag says which. Assumes nothing.
use Rattle.bench_stream.specs.Lines.{start_row}
use Rattle.bench_stream.proofs.lines.start_row.Goals as goal

pub returns-then-decays : goal.returns-then-decays
unfolding start_row
returns-then-decays c =
    rw c.if-decays.true c.peaks_start.ensures

pub returns : goal.returns
unfolding start_row
returns c =
    rw c.if-decays.false c.knee_start.ensures
