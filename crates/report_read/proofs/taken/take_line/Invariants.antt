-- What stays so in the loop.
use Prim.Native.Nat.{◌-◌}
use mathlib.Core.Path.{◌≡◌}
use lib.ListN.{length}
use Rattle.report_read.specs.Reading.{take_line}
use Rattle.report_read.proofs.taken.take_line.Given as goal

abbrev pub invariant-loop-k : goal.invariant-loop-k
invariant-loop-k l =
    (l.words ≡ l.initial.words) × (length l.words ≡ 384) × (take_line l.k (192 - l.k) l.initial.words l.line ≡ take_line l.q (192 - l.q) l.initial.words l.line)
