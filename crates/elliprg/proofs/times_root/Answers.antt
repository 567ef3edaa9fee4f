-- `times_root` meets its contract, case by case. Assumes nothing.
use borrow.Author.Rules.{rules}
use mathlib.Core.Path.{sym}
use Rattle.std.proofs.lemmas.Result.{err_from_is_err_and}
use Rattle.elliprg.specs.Rg.{times_root}
use Rattle.elliprg.proofs.times_root.Goals as goal

pub returns : goal.returns
unfolding times_root
returns c =
    rw (c.in_ok-found.was, sym c.sqrt.ensures, sym c.rescaled.ensures)

pub returns-in_err-found : goal.returns-in_err-found
unfolding times_root
returns-in_err-found c =
    let p = err_from_is_err_and c.from_residual.result c.from_residual.ensures.1 in rw (c.in_err-found.was, p.1, p.2)
