-- What stays so in the loop.
use Prim.Native.Nat.{◌*◌, ◌^◌, ◌≤◌, ◌<◌}
use mathlib.Core.Path.{◌≡◌}
use lib.ListN.{length, drop}
use Rattle.packed_number.specs.Numbers.{number_from, number_at}
use Rattle.packed_number.specs.Groups.{tenth}
use Rattle.packed_number.proofs.number_at.Given as goal

abbrev pub invariant-loop-left : goal.invariant-loop-left
invariant-loop-left l =
    (l.at ≤ length l.bytes) × (l.value < l.weight) × (l.weight * 128 ^ l.left ≤ tenth)
    × (number_from l.left l.weight l.value l.at (drop l.at l.bytes) ≡ number_at l.bytes l.place)
