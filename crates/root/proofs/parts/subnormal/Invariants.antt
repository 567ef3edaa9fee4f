-- What stays so in the loop, and what goes down.
use Rattle.std.proofs.Common.{◌≡◌, ◌+◌, ◌*◌, ◌^◌, ◌≤◌}
use Rattle.root.specs.Parts.{four}
use Rattle.root.proofs.parts.subnormal.Given as goal

abbrev pub invariant-loop-n : goal.invariant-loop-n
invariant-loop-n l =
    (l.n * four l.y ≡ l.b * four 511) × (l.n + 2 ≤ 2 ^ 54) × (l.y ≤ 511)

abbrev pub decreases-loop-n : goal.decreases-loop-n
decreases-loop-n l =
    l.y
