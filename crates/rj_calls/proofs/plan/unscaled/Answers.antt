-- `unscaled` meets its contract: its tests are those of the definition, in its order. Assumes nothing.
use mathlib.Core.Path.{ap}
use Rattle.rj_calls.specs.declared.plan.Plan.TheVariants.{Done, Reduce}
use Rattle.rj_calls.specs.Run.{plan_unscaled}
use Rattle.rj_calls.proofs.plan.unscaled.Goals as goal

pub returns-then-p : goal.returns-then-p
unfolding plan_unscaled
returns-then-p c =
    rw c.if-p.true (ap Reduce c.reduce.ensures)

pub returns : goal.returns
unfolding plan_unscaled
returns c =
    rw c.if-p.false (ap Done c.positive.ensures)
