-- `put_sign` meets its contract. Assumes nothing.
use Rattle.report_text.proofs.Parts.{sign_there, sign_not}
use Rattle.report_text.proofs.line.put_sign.Goals as goal

pub returns-then-below_zero : goal.returns-then-below_zero
returns-then-below_zero c =
    sign_there _ _ _ c.below_zero.ensures c.if-below_zero.true

pub returns : goal.returns
returns c =
    sign_not _ _ _ c.below_zero.ensures c.if-below_zero.false
