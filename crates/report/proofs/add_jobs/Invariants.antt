-- What stays so in the loop, and what goes down.
use Rattle.std.proofs.Common.{◌-◌, length}
use Rattle.report.proofs.Adding.{Adding}
use Rattle.report.proofs.add_jobs.Given as goal

abbrev pub invariant-loop-got : goal.invariant-loop-got
invariant-loop-got l = Adding l.initial.report l.list l.report l.place

abbrev pub decreases-loop-got : goal.decreases-loop-got
decreases-loop-got l = length l.list - l.place
