-- `words_after` meets its contract, test by test as its definition. Assumes nothing.
use Prim.Native.Nat.{◌+◌}
use mathlib.Core.Path.{sym, ◌∙◌}
use native.Mathlib.Omega.{arith}
use borrow.Author.Tests.{leb-true}
use Rattle.table.specs.Words.{words_after}
use Rattle.table.proofs.check.words_after.Goals as goal

pub overflow_add-result : goal.overflow_add-result
unfolding words_after
overflow_add-result c =
    let a = c.args in
    omega (arith, leb-true (a.at + 2) a.length (sym c.has_room.ensures ∙ c.if-has_room.true))

pub returns-then-has_room : goal.returns-then-has_room
unfolding words_after
returns-then-has_room c =
    rw (sym c.has_room.ensures ∙ c.if-has_room.true)

pub returns : goal.returns
unfolding words_after
returns c =
    rw (sym c.has_room.ensures ∙ c.if-has_room.false)
