-- `four_roots` meets its contract, step by step as its definition. Assumes nothing.
use mathlib.Core.Path.{sym}
use borrow.Author.Rules.{rules}
use Rattle.swing.specs.Period.{four_roots}
use Rattle.swing.proofs.period.four_roots.Goals as goal

pub returns : goal.returns
unfolding four_roots
returns c =
    rw (sym c.quotient.ensures, sym c.sqrt.ensures)
