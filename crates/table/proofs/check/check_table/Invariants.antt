-- What stays so in the loop, and what goes down.
use Prim.Native.Nat.{◌-◌}
use lib.ListN.{length}
use Rattle.table.proofs.Rest.{Standing}
use Rattle.table.proofs.check.check_table.Given as goal

abbrev pub invariant-loop-place : goal.invariant-loop-place
invariant-loop-place l =
    Standing l.tolerance l.list l.claims l.so l.row l.place l.at

abbrev pub decreases-loop-place : goal.decreases-loop-place
decreases-loop-place l =
    length l.list - l.place
