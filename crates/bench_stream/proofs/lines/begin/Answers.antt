-- `begin` meets its contract, step by step as its definition. Assumes nothing.
use mathlib.Core.Path.{sym}
use Rattle.bench_stream.specs.Lines.{state_from}
use Rattle.bench_stream.proofs.lines.begin.Goals as goal

pub returns : goal.returns
unfolding state_from
returns c =
    rw (sym c.start_row.ensures)
