-- `at_zero` meets its contract, step by step as its definition. Assumes nothing.
use mathlib.Core.Path.{sym}
use Rattle.rc_cases.specs.Cases.{rc_at_zero}
use Rattle.rc_cases.proofs.cases.at_zero.Goals as goal

pub returns : goal.returns
unfolding rc_at_zero
returns c =
    rw (sym c.sqrt.ensures)
