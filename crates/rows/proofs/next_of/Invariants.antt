-- No more is held than there is room for.
use Rattle.std.proofs.Common.{◌≤◌, length}
use Rattle.rows.proofs.next_of.Given as goal

abbrev pub invariant-loop : goal.invariant-loop
invariant-loop l = l.so_far.row ≤ length l.held
