-- What stays so in the loop.
use Rattle.std.proofs.Common.{◌+◌, ◌-◌, ◌≡◌}
use Rattle.writing.specs.Decimal.{places_of}
use Rattle.writing.proofs.numbers.places.Given as goal

abbrev pub invariant-loop-k : goal.invariant-loop-k
invariant-loop-k l = l.k + places_of (l.more - l.k) l.rest ≡ places_of l.more l.n
