-- `write_swing` meets its contract, case by case. Assumes nothing.
use Rattle.std.proofs.Common.{Ok}
use Rattle.std.proofs.Common.{sym}
use mathlib.Core.Path.{subst}
use native.Mathlib.Omega.{arith}
use borrow.Author.Rules.{rules}
use Rattle.writing.specs.Written.{put_length}
use Rattle.carlson.specs.declared.answer.Found.{Found}
use Rattle.between.specs.Between.{Between}
use Rattle.swing.specs.Ratios.{power}
use Rattle.swing.specs.Bounded.{Bounded, value_in}
use Rattle.swing_write.specs.Replies.{swing_text}
use Rattle.swing_write.proofs.replies.write_swing.Goals as goal

pub returns-in-Ok : goal.returns-in-Ok
unfolding swing_text
returns-in-Ok c =
    rw c.in-Ok.is c.put_period.ensures

pub returns-in-Err : goal.returns-in-Err
unfolding swing_text
returns-in-Err c =
    rw (c.in-Err.is, sym c.number.ensures) c.put_refused.ensures
