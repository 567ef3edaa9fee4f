-- The root lies above low, and 2 ^ turn further on at most.
use Rattle.std.proofs.Common.{◌+◌, ◌*◌, ◌^◌, ◌<◌, ◌≤◌}
use Rattle.root.proofs.exact.bisect.Given as goal

abbrev pub invariant-loop-turn : goal.invariant-loop-turn
invariant-loop-turn l =
    let high = l.low + 2 ^ l.turn in
    (high < 2 ^ 53) × (l.low * (l.low + 1) < l.n * 2 ^ 52) × (l.n * 2 ^ 52 ≤ high * (high + 1))
