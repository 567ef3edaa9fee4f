-- What stays so in the loop.
use Prim.Native.Nat.{◌-◌}
use mathlib.Core.Path.{◌≡◌}
use lib.ListN.{length}
use Rattle.report_words.specs.Words.{blocks_joined}
use Rattle.report_words.proofs.join.join_words.Given as goal

abbrev pub invariant-loop-k : goal.invariant-loop-k
invariant-loop-k l =
    (length l.report ≡ 384) × (length l.other ≡ 384)
    × (blocks_joined l.k (6 - l.k) l.report l.other ≡ blocks_joined 0 6 l.initial.report l.other)
