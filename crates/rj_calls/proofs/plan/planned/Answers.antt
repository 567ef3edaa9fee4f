-- `planned` meets its contract: its tests are those of the definition, in its order. Assumes nothing.
use mathlib.Core.Path.{sym}
use Rattle.rj_calls.specs.Run.{plan_of}
use Rattle.rj_calls.proofs.plan.planned.Goals as goal

pub returns-then-p : goal.returns-then-p
unfolding plan_of
returns-then-p c =
    rw (
      c.if-p.true,
      sym c.rising-t.ensures,
      sym c.elliprj_pv_near_zero.ensures,
    )
    c.unless_near.ensures

pub returns : goal.returns
unfolding plan_of
returns c =
    rw c.if-p.false c.scaled.ensures
