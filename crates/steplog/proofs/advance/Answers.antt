-- `advance` meets its contract: once no reading is left, the log has what all of them give. Assumes nothing.
use Rattle.std.proofs.Common.{◌≡◌, sym, ap, ◌∙◌, arith}
use Rattle.steplog.specs.Steps.{steps_of}
use Rattle.steplog.proofs.StepLaws.{log_next, log_last, log_steps, steps_taken}
use Rattle.steplog.specs.declared.Log.{Log}
use Rattle.steplog.proofs.advance.Goals as goal

pub loop-reading-preserved : goal.loop-reading-preserved
loop-reading-preserved c =
    rw c.logged-log.ensures
    (sym (log_next c.args.readings.now c.loop-reading.log c.loop-reading.reading-index c.loop-reading-test.true)
    ∙ c.loop-reading.invariant)

pub returns : goal.returns
returns c =
    let a = c.args in
    let l = c.args.readings.now in
    let e : c.loop-reading.log.sum ≡ steps_of a.total l =
    ap (λ (x : Log). x.sum) (sym (log_last l c.loop-reading.log c.loop-reading.reading-index c.loop-reading-test.false)
    ∙ c.loop-reading.invariant) ∙ log_steps l a.total (omega arith) in
    record { value = e; steps_taken = steps_taken _ _ _ e }
