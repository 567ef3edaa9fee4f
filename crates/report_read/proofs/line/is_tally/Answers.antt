-- `is_tally` meets its contract. Assumes nothing.
use Rattle.report_read.proofs.Tries.{tally_low, tally_rest}
use Rattle.report_read.proofs.line.is_tally.Goals as goal

pub returns-then-i-lt1 : goal.returns-then-i-lt1
returns-then-i-lt1 c =
    tally_low c.args.q c.if-i-lt1.true

pub returns : goal.returns
returns c =
    tally_rest c.args.q c.if-i-lt1.false
