-- `room_after` meets its contract, by `Steps`. Assumes nothing.
use mathlib.Core.Path.{◌∙◌}
use Rattle.report_words.specs.Words.{calls_in}
use native.Mathlib.Omega.{arith}
use Rattle.report_words.proofs.Steps.{calls_other, calls_over, calls_on, calls_left}
use Rattle.report_words.proofs.calls.room_after.Goals as goal

pub returns-then-report-ne-WORDS : goal.returns-then-report-ne-WORDS
returns-then-report-ne-WORDS c =
    let a = c.args in calls_other a.room a.report.now (λ e. omega arith)

pub loop-k-init : goal.loop-k-init
loop-k-init c = (unfold calls_in in omega arith, omega arith)

pub returns-in_err-left : goal.returns-in_err-left
returns-in_err-left c =
    c.from_residual.ensures
    ∙ calls_over _ c.loop-k.left c.loop-k.k _ c.loop-k.invariant.1 (omega arith) c.loop-k.invariant.0
    (omega (arith, c.in_err-left.ensures))

pub loop-k-preserved : goal.loop-k-preserved
loop-k-preserved c =
    let e = c.in_ok-left.ensures in
    (rw e.1 (calls_on _ c.loop-k.left c.loop-k.k _ c.loop-k.invariant.0 e.0), c.loop-k.invariant.1)

pub returns : goal.returns
returns c =
    calls_left _ c.loop-k.left c.loop-k.k _ c.loop-k.invariant.1 (omega arith) (omega arith) c.loop-k.invariant.0
