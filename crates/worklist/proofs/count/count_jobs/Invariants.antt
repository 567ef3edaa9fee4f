-- What stays so in the loop, and what goes down.
use Rattle.std.proofs.Common.{◌-◌, length}
use Rattle.worklist.proofs.CountSteps.{Counting}
use Rattle.worklist.proofs.count.count_jobs.Given as goal

abbrev pub invariant-loop-got : goal.invariant-loop-got
invariant-loop-got l = Counting l.list l.n l.place

abbrev pub decreases-loop-got : goal.decreases-loop-got
decreases-loop-got l = length l.list - l.place
