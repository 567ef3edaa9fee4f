-- `gatewren_decay` meets its contract, case by case. Assumes nothing.
use mathlib.Core.Path.{sym, ◌∙◌}
use borrow.Author.Rules.{rules}
use Rattle.gatewren.specs.Bench.{decay_number, decrement_after}
use Rattle.gatewren.proofs.bench_layer.gatewren_decay.Goals as goal

pub returns-in-Ok : goal.returns-in-Ok
unfolding decay_number decrement_after
returns-in-Ok c =
    let e = sym c.decrement.ensures ∙ c.in-Ok.is in record { value = rw e; decrement_after = rw e }

pub returns-in-Err : goal.returns-in-Err
unfolding decay_number decrement_after
returns-in-Err c =
    let e = sym c.decrement.ensures ∙ c.in-Err.is in record { value = rw e c.number.ensures; decrement_after = rw e }
