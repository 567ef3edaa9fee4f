-- What stays so in the loop.
use Prim.Native.Nat.{◌+◌, ◌-◌, ◌≤◌}
use mathlib.Core.Path.{◌≡◌}
use lib.ListN.{length}
use Rattle.packed_number.specs.Numbers.{groups_of, number_bytes}
use Rattle.packed_number.proofs.number_length.Given as goal

abbrev pub invariant-loop-left : goal.invariant-loop-left
invariant-loop-left l =
    (l.left ≤ 9) × (9 - l.left + length (groups_of l.left l.rest) ≡ length (number_bytes l.n))
