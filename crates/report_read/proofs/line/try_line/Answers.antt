-- `try_line` meets its contract. Assumes nothing.
use native.Mathlib.Omega.{arith}
use Rattle.report_read.proofs.Tries.{sum_stays}
use Rattle.report_read.proofs.line.try_line.Goals as goal

pub returns : goal.returns
returns c =
    record { value = c.try_sum.ensures; words_after = sum_stays c.args.words.now c.args.q c.args.line.now (omega arith) (omega arith) (omega arith) }
