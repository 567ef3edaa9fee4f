-- What stays so in the loop: what is left of it gives what was left of it at first.
use Rattle.std.proofs.Common.{◌-◌, false}
use Rattle.carlson.specs.Loop.{capped, Rest}
use Rattle.rd_duplicate.specs.Duplicate.{rd_cap, rd_step, rd_close, rd_found, rd_spent}
use Rattle.rd_duplicate.proofs.duplicate.onward.Given as goal

abbrev pub invariant-loop-m : goal.invariant-loop-m
invariant-loop-m l =
    let found = rd_found l.x l.y l.a0 in
    let first = capped rd_step rd_close found rd_spent (rd_cap - l.from) false l.initial.at l.from in
    Rest rd_step rd_close found rd_spent rd_cap first false l.at l.m
