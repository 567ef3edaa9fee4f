-- `after_line_lem` meets its contract, step by step as its definition. Assumes nothing.
use mathlib.Core.Path.{sym}
use Rattle.bench_stream.specs.Lines.{state_heard}
use Rattle.bench_stream.proofs.lines.after_line.Goals as goal

pub returns : goal.returns
unfolding state_heard
returns c =
    rw (sym c.start_row.ensures, sym c.tallied.ensures)
