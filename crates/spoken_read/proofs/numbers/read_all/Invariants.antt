-- What stays so in the loop, and what goes down.
use Rattle.std.proofs.Common.{◌≡◌, ◌-◌, ◌≤◌, length}
use Rattle.spoken_read.specs.Numbers.{taken_from, taken_of}
use Rattle.spoken_read.proofs.numbers.read_all.Given as goal

abbrev pub invariant-loop-at : goal.invariant-loop-at
invariant-loop-at l = (taken_from (length l.line) l.line l.at l.so ≡ taken_of l.line l.start) × (l.at ≤ length l.line)

abbrev pub decreases-loop-at : goal.decreases-loop-at
decreases-loop-at l = length l.line - l.at
