-- `argument_at` meets its contract, case by case as its definition. Assumes nothing.
use mathlib.Core.Path.{sym}
use borrow.Author.Tests.{lt-ltb, le-ltb}
use Rattle.std.proofs.lemmas.Result.{err_from_is_err_and}
use Rattle.packed.specs.Reading.{argument_read, argument_at}
use Rattle.packed.proofs.read.argument_at.Goals as goal

pub returns-in_err-number : goal.returns-in_err-number
unfolding argument_read argument_at
returns-in_err-number c =
    let p = err_from_is_err_and c.from_residual.result c.from_residual.ensures.1 in
    rw (p.1, p.2, sym c.arity.ensures, lt-ltb _ _ c.if-k-arity.true, sym c.in_err-number.ensures)

pub returns-then-k-arity : goal.returns-then-k-arity
unfolding argument_read argument_at
returns-then-k-arity c =
    rw (
      sym c.arity.ensures,
      lt-ltb _ _ c.if-k-arity.true,
      sym c.in_ok-number.ensures,
      sym c.with_argument.ensures,
    )

pub returns : goal.returns
unfolding argument_at
returns c =
    rw (sym c.arity.ensures, le-ltb _ _ c.if-k-arity.false)
