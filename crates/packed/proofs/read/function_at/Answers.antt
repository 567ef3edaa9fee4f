-- `function_at` meets its contract, case by case as its definition. Assumes nothing.
use mathlib.Core.Path.{sym, ◌∙◌}
use borrow.Author.Tests.{eq-eqb, ne_eqb}
use Rattle.std.proofs.lemmas.Result.{err_from_is_err_and}
use Rattle.packed.specs.Reading.{begun, function_read}
use Rattle.packed.proofs.read.function_at.Goals as goal

pub returns-in_err-number : goal.returns-in_err-number
unfolding function_read
returns-in_err-number c =
    let p = err_from_is_err_and c.from_residual.result c.from_residual.ensures.1 in
    rw (p.1, p.2, sym c.in_err-number.ensures)

pub returns-then-arity-eq0 : goal.returns-then-arity-eq0
unfolding function_read
returns-then-arity-eq0 c = rw (sym c.in_ok-number.ensures, eq-eqb _ 0 (sym c.arity.ensures ∙ c.if-arity-eq0.true))

pub returns : goal.returns
unfolding begun function_read
returns c = rw (sym c.in_ok-number.ensures, ne_eqb _ 0 (λ e. c.if-arity-eq0.false (c.arity.ensures ∙ e)))
