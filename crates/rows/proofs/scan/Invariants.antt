-- No more is held than there is room for.
use Rattle.std.proofs.Common.{◌≤◌, length}
use Rattle.rows.proofs.scan.Given as goal

abbrev pub invariant-loop-at : goal.invariant-loop-at
invariant-loop-at l = l.row ≤ length l.held
