-- `left_out_lem` meets its contract. Assumes nothing.
use mathlib.Core.Path.{sym}
use native.Mathlib.Omega.{arith}
use Rattle.report_text.proofs.Lines.{calls_in_lem, rest_in, tally_in}
use Rattle.report_text.proofs.report.left_out.Goals as goal

pub returns-then-i-lt1 : goal.returns-then-i-lt1
returns-then-i-lt1 c =
    let a = c.args in calls_in_lem a.words.now a.q c.if-i-lt1.true

pub returns-then-i-gt-LAST : goal.returns-then-i-gt-LAST
returns-then-i-gt-LAST c =
    let a = c.args in rest_in a.words.now a.q (omega arith) (omega arith)

pub returns : goal.returns
returns c =
    let a = c.args in sym (tally_in a.words.now a.q (omega arith) (omega arith))
