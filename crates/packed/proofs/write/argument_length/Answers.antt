-- `argument_length` meets its contract. Assumes nothing.
use mathlib.Core.Path.{sym}
use borrow.Author.Tests.{lt-ltb, le-ltb}
use Rattle.packed.specs.Jobs.{argument_bytes}
use Rattle.packed.proofs.write.argument_length.Goals as goal

pub returns-then-k-arity : goal.returns-then-k-arity
unfolding argument_bytes
returns-then-k-arity c =
    rw (sym c.arity.ensures, lt-ltb _ _ c.if-k-arity.true, sym c.argument_of.ensures)
    c.number_length.ensures

pub returns : goal.returns
unfolding argument_bytes
returns c =
    rw (sym c.arity.ensures, le-ltb _ _ c.if-k-arity.false)
