-- What stays so in the loop, and what goes down.
use Prim.Native.Nat.{◌+◌, ◌*◌, ◌^◌, ◌<◌}
use mathlib.Core.Path.{◌≡◌}
use lib.ListN.{length}
use lib.Seq.{sets}
use Rattle.packed_number.specs.Numbers.{groups_of, number_bytes}
use Rattle.packed.proofs.numbers.put_number.Given as goal

abbrev pub invariant-loop-left : goal.invariant-loop-left
invariant-loop-left l =
    (length l.out ≡ length l.initial.out) × (l.rest < 2 * 128 ^ l.left) × (l.at + length (groups_of l.left l.rest) ≡ l.place + length (number_bytes l.n))
    × (sets l.out l.at (groups_of l.left l.rest) ≡ sets l.initial.out l.place (number_bytes l.n))
