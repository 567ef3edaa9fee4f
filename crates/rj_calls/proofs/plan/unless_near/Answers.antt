-- `unless_near` meets its contract, step by step as its definition. Assumes nothing.
use mathlib.Core.Path.{sym}
use borrow.Author.Rules.{rules}
use Rattle.rj_calls.specs.Run.{plan_near}
use Rattle.rj_calls.proofs.plan.unless_near.Goals as goal

pub returns-in-Some : goal.returns-in-Some
unfolding plan_near
returns-in-Some c =
    rw (c.in-Some.is, sym c.taylor.ensures)

pub returns-in-None : goal.returns-in-None
unfolding plan_near
returns-in-None c =
    rw c.in-None.is c.scaled.ensures
