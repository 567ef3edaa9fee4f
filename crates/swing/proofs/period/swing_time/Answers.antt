-- `swing_time` meets its contract, step by step as its definition. Assumes nothing.
use mathlib.Core.Path.{sym}
use borrow.Author.Rules.{rules}
use Rattle.swing.specs.Period.{swung}
use Rattle.swing.proofs.period.swing_time.Goals as goal

pub returns : goal.returns
unfolding swung
returns c =
    rw (
      sym c.quotient-y.ensures,
      sym c.four_roots.ensures,
      sym c.elliprf.ensures,
      sym
          c.multiplied.ensures,
    )
