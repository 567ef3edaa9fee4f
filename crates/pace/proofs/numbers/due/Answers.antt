-- `due` meets its contract, test by test. Assumes nothing.
use borrow.Author.Tests.{lt-ltb, le-ltb}
use Rattle.pace.specs.Numbers.{due_of}
use Rattle.pace.proofs.numbers.due.Goals as goal

pub returns-then-size-length : goal.returns-then-size-length
unfolding due_of
returns-then-size-length c =
    rw (lt-ltb _ _ c.if-size-length.true)

pub returns : goal.returns
unfolding due_of
returns c =
    rw (le-ltb _ _ c.if-size-length.false)
