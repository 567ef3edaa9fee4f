-- `judge` meets its contract: what the swing answers, weighed. Assumes nothing.
use mathlib.Core.Path.{sym, subst}
use Rattle.swing.specs.Bounded.{Bounded}
use Rattle.swing.proofs.Bounded.{period_bounded}
use Rattle.drag.specs.Verdict.{drag_of}
use Rattle.drag.proofs.knee.judge.Goals as goal

pub against-requires : goal.against-requires
unfolding drag_of
against-requires c =
    subst Bounded (sym c.period.ensures.value) (period_bounded _ _ _)

pub returns : goal.returns
unfolding drag_of
returns c =
    rw (sym c.period.ensures.value) c.against.ensures
