-- A line of the bench that has ended: its reply, and the tally that it is told in. Definitions only.
use Rattle.std.specs.Prelude.{ℕ, ◌+◌, ◌%◌, ◌^◌, Bool, cond, ◌==◌, Float, Option, Some, None, Result, Ok, Err}
use Rattle.bench_read.specs.Rows.{knee_of, peaks_of}
use Rattle.bench_read.specs.declared.rows.Row.{Row}
use Rattle.bench_read.specs.declared.ends.Knee.{Knee}
use Rattle.bench_read.specs.declared.ends.Peaks.{Peaks}
use Rattle.drag.specs.Verdict.{drag_of}
use Rattle.drag.specs.declared.nanoseconds.Verdict.{Verdict}
use Rattle.decay.specs.Decrement.{decay_of}
use Rattle.refusals.specs.declared.Refusal.{Refusal}
use Rattle.bench_write.specs.declared.said.Said.{Said}
use Rattle.bench_write.specs.declared.said.Said.TheVariants.{Weighed, NoVerdict, Decrement, NoDecrement, Bad, Tallies}
use Rattle.bench_write.specs.declared.tallies.Tally.{Tally}

-- what is said to a verdict or a decrement, or to a refusal
unfoldable pub of_judged : Result Verdict Refusal → Said
of_judged (Ok v) = Weighed v
of_judged (Err r) = NoVerdict r

unfoldable pub of_decay : Result Float Refusal → Said
of_decay (Ok x) = Decrement x
of_decay (Err r) = NoDecrement r

unfoldable pub knee_reply : Option Knee → Said
knee_reply (Some k) = of_judged (drag_of k.length k.height k.gravity k.time k.limit)
knee_reply None = Bad

unfoldable pub peaks_reply : Option Peaks → Said
peaks_reply (Some p) = of_decay (decay_of p.first p.second)
peaks_reply None = Bad

-- of two peaks, or of a knee whose name has so many bytes
unfoldable pub reply_of : Bool → Row → ℕ → Said
reply_of decays row name = cond decays (peaks_reply (peaks_of row)) (knee_reply (knee_of row name))

-- ---- which tally a reply is told in: 0 passed, 1 drags, 2 refused, 3 a bad line, 4 none
unfoldable pub kind_of : Said → ℕ
kind_of (Weighed v) = cond v.passes 0 1
kind_of (NoVerdict r) = 2
kind_of (Decrement x) = 4
kind_of (NoDecrement r) = 4
kind_of Bad = 3
kind_of (Tallies t) = 4

-- one more, in a word
unfoldable pub more_of : ℕ → Bool → ℕ
more_of n one = cond one ((n + 1) % 2 ^ 64) n

unfoldable pub counted_of : Tally → ℕ → Tally
counted_of t kind = record {
  passed = more_of t.passed (kind == 0);
  dragging = more_of t.dragging (kind == 1);
  refused = more_of t.refused (kind == 2);
  bad = more_of t.bad (kind == 3);
}

unfoldable pub tallied_of : Tally → Said → Tally
tallied_of t reply = counted_of t (kind_of reply)
