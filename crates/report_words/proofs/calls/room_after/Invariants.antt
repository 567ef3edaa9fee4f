-- What stays so in the loop.
use Prim.Native.Nat.{◌+◌}
use mathlib.Core.Path.{◌≡◌}
use lib.ListN.{length}
use Rattle.report_words.specs.Words.{calls_in}
use Rattle.report_words.proofs.calls.room_after.Given as goal

abbrev pub invariant-loop-k : goal.invariant-loop-k
invariant-loop-k l =
    (l.left + calls_in l.k l.report ≡ l.room) × (length l.report ≡ 384)
