-- What stays so in the loop: what is left of it gives what was left of it at first.
use Rattle.std.proofs.Common.{◌-◌, false}
use Rattle.carlson.specs.Loop.{capped, Rest}
use Rattle.rf_duplicate.specs.Duplicate.{rf_cap, rf_step, rf_close, rf_found, rf_spent}
use Rattle.rf_duplicate.proofs.duplicate.onward.Given as goal

abbrev pub invariant-loop-m : goal.invariant-loop-m
invariant-loop-m l =
    let found = rf_found l.x l.y l.a0 in
    let first = capped rf_step rf_close found rf_spent (rf_cap - l.from) false l.initial.at l.from in
    Rest rf_step rf_close found rf_spent rf_cap first false l.at l.m
