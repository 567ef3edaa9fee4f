-- `write_line` meets its contract. Assumes nothing.
use mathlib.Core.Path.{sym}
use native.Mathlib.Omega.{arith}
use Rattle.writing.specs.Written.{tried_put}
use Rattle.report_text.proofs.Lines.{slot_line_lem, exact_line_lem, sum_line_lem}
use Rattle.report_text.proofs.report.write_line.Goals as goal

pub returns-then-i-lt-SUM : goal.returns-then-i-lt-SUM
returns-then-i-lt-SUM c =
    rw (sym (slot_line_lem c.args.words.now c.args.q (omega arith)))
    (tried_put {room = 35} (omega arith) c.put_slot.ensures)

pub returns-then-i-eq-SUM : goal.returns-then-i-eq-SUM
returns-then-i-eq-SUM c =
    rw (sym (exact_line_lem c.args.words.now c.args.q (omega arith) (omega arith) (omega arith)))
    (tried_put {room = 555} (omega arith) c.put_exact.ensures)

pub returns : goal.returns
returns c =
    rw (sym (sum_line_lem c.args.words.now c.args.q (omega arith) (omega arith) (omega arith) (λ e. omega arith)))
    (tried_put {room = 24} (omega arith) c.put_sum.ensures)
