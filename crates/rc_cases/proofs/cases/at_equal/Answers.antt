-- `at_equal` meets its contract, step by step as its definition. Assumes nothing.
use mathlib.Core.Path.{sym}
use Rattle.rc_cases.specs.Cases.{rc_at_equal}
use Rattle.rc_cases.proofs.cases.at_equal.Goals as goal

pub returns : goal.returns
unfolding rc_at_equal
returns c =
    rw (sym c.sqrt.ensures)
