-- What is found is reached, and 2 ^ turn more is not.
use Rattle.std.proofs.Common.{◌+◌, ◌^◌, ◌≤◌, not, T}
use Rattle.rounding.specs.Cut.{infinity, reached}
use Rattle.power.specs.Parts.{cut_at}
use Rattle.power.proofs.search.digits.Given as goal

abbrev pub invariant-loop-turn : goal.invariant-loop-turn
invariant-loop-turn l =
    (l.found ≤ infinity) × T (reached (cut_at l.n l.y) l.found) × T (not (reached (cut_at l.n l.y) (l.found + 2 ^ l.turn)))
