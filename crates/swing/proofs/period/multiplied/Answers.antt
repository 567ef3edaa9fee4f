-- `multiplied` meets its contract, case by case as its definition. Assumes nothing.
use borrow.Author.Rules.{rules}
use mathlib.Core.Path.{sym}
use Rattle.std.proofs.lemmas.Result.{err_from_is_err_and}
use Rattle.swing.specs.Period.{times}
use Rattle.swing.proofs.period.multiplied.Goals as goal

pub returns : goal.returns
unfolding times
returns c =
    rw (c.in_ok-found.was, sym c.handed.ensures)

pub returns-in_err-found : goal.returns-in_err-found
unfolding times
returns-in_err-found c =
    let p = err_from_is_err_and c.from_residual.result c.from_residual.ensures.1 in rw (c.in_err-found.was, p.1, p.2)
