-- What is joined below i, with the rest joined, is what all of it joined is.
use Rattle.std.proofs.Common.{◌≡◌, ◌-◌}
use Rattle.tally.specs.Tally.{slots_joined}
use Rattle.tally.proofs.join.join_slots.Given as goal

abbrev pub invariant-loop-i : goal.invariant-loop-i
invariant-loop-i l = slots_joined l.i (30 - l.i) l.block l.other ≡ slots_joined 0 30 l.initial.block l.other
