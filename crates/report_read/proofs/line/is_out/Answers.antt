-- `is_out` meets its contract. Assumes nothing.
use Rattle.report_read.proofs.Tries.{out_tally, out_not}
use Rattle.report_read.proofs.line.is_out.Goals as goal

pub returns-then-is_tally : goal.returns-then-is_tally
returns-then-is_tally c =
    let a = c.args in out_tally a.q a.n c.is_tally.ensures c.if-is_tally.true

pub returns : goal.returns
returns c =
    let a = c.args in out_not a.q a.n c.is_tally.ensures c.if-is_tally.false
