-- `told_verdict` meets its contract, case by case. Assumes nothing.
use borrow.Author.Rules.{rules}
use Rattle.gatewren.specs.Bench.{judged_number, verdict_after, minus_after, excess_after, period_after}
use Rattle.gatewren.proofs.bench_layer.told_verdict.Goals as goal

pub returns-in-Ok : goal.returns-in-Ok
unfolding judged_number verdict_after minus_after excess_after period_after
returns-in-Ok c =
    let e = c.in-Ok.is in record { value = rw e; verdict_after = rw e c.word.ensures; below_after = rw e c.minus.ensures; excess_after = rw e; period_after = rw e }

pub returns-in-Err : goal.returns-in-Err
unfolding judged_number verdict_after minus_after excess_after period_after
returns-in-Err c =
    let e = c.in-Err.is in record { value = rw e c.number.ensures; verdict_after = rw e; below_after = rw e; excess_after = rw e; period_after = rw e }
