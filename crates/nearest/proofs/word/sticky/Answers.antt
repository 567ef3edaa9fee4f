-- `sticky` meets its contract. Assumes nothing.
use borrow.Author.Rules.{rules}
use native.Mathlib.Omega.{arith}
use Rattle.nearest.specs.Shift.{stuck_none, stuck_some}
use Rattle.nearest.proofs.word.sticky.Goals as goal

pub returns-then-lost-eq0 : goal.returns-then-lost-eq0
returns-then-lost-eq0 c =
    stuck_none c.args.l c.args.lost (omega arith)

pub returns : goal.returns
returns c =
    stuck_some c.args.l c.args.lost (λ e. omega arith)
