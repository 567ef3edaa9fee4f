-- `put_sign` meets its contract. Assumes nothing.
use native.Mathlib.Omega.{arith}
use borrow.Author.Rules.{rules}
use Rattle.decimal_text.proofs.Parts.{sign_room, sign_there, sign_not}
use Rattle.decimal_text.proofs.text.put_sign.Goals as goal

pub bounds-out-at : goal.bounds-out-at
bounds-out-at c =
    omega (arith, sign_room _ c.if-below.true)

pub returns-then-below : goal.returns-then-below
returns-then-below c =
    sign_there _ _ _ c.if-below.true

pub returns : goal.returns
returns c =
    sign_not _ _ _ c.if-below.false
