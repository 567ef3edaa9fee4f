-- `steps` meets its contract: its test is the definition's. Assumes nothing.
use mathlib.Core.Path.{sym}
use Rattle.rc_cases.specs.Cases.{rc_steps}
use Rattle.rc_cases.proofs.cases.steps.Goals as goal

pub returns-then-y : goal.returns-then-y
unfolding rc_steps
returns-then-y c =
    rw (c.if-y.true, sym c.sqrt.ensures) c.cases.ensures

pub returns : goal.returns
unfolding rc_steps
returns c =
    rw c.if-y.false c.cases-2.ensures
