-- `write_total` meets its contract, case by case. Assumes nothing.
use native.Mathlib.Omega.{arith}
use borrow.Author.Rules.{rules}
use Rattle.std.proofs.Common.{sym}
use Rattle.swing_write.specs.Replies.{total_text}
use Rattle.swing_write.proofs.replies.write_total.Goals as goal

pub returns-in-Ok : goal.returns-in-Ok
unfolding total_text
returns-in-Ok c =
    rw c.in-Ok.is c.put_number.ensures

pub returns-in-Err : goal.returns-in-Err
unfolding total_text
returns-in-Err c =
    rw (c.in-Err.is, sym c.number.ensures) c.put_refused.ensures
