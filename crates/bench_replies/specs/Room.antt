-- A reply to a line asks for the room of one. Assumes nothing.
use Rattle.std.specs.Prelude.{◌≡◌, ℕ, Bool, true, false, Float, Option, Some, None, Result, Ok, Err}
use Rattle.std.proofs.Math.Path.{refl}
use Rattle.bench_read.specs.Rows.{knee_of, peaks_of}
use Rattle.bench_read.specs.declared.rows.Row.{Row}
use Rattle.bench_read.specs.declared.ends.Knee.{Knee}
use Rattle.bench_read.specs.declared.ends.Peaks.{Peaks}
use Rattle.drag.specs.Verdict.{drag_of}
use Rattle.drag.specs.declared.nanoseconds.Verdict.{Verdict}
use Rattle.decay.specs.Decrement.{decay_of}
use Rattle.refusals.specs.declared.Refusal.{Refusal}
use Rattle.bench_write.specs.Texts.{longest_reply, longest_of}
use Rattle.bench_replies.specs.Replies.{of_judged, of_decay, knee_reply, peaks_reply, reply_of}

judged_room : (j : Result Verdict Refusal) → longest_of (of_judged j) ≡ longest_reply
unfolding longest_of of_judged
judged_room (Ok v) = refl
judged_room (Err r) = refl

decay_room : (d : Result Float Refusal) → longest_of (of_decay d) ≡ longest_reply
unfolding longest_of of_decay
decay_room (Ok x) = refl
decay_room (Err r) = refl

knee_room : (k : Option Knee) → longest_of (knee_reply k) ≡ longest_reply
unfolding knee_reply
knee_room (Some k) = judged_room (drag_of k.length k.height k.gravity k.time k.limit)
knee_room None = unfold longest_of in refl

peaks_room : (p : Option Peaks) → longest_of (peaks_reply p) ≡ longest_reply
unfolding peaks_reply
peaks_room (Some p) = decay_room (decay_of p.first p.second)
peaks_room None = unfold longest_of in refl

-- THE LAW
pub reply_room : (decays : Bool) (row : Row) (name : ℕ) → longest_of (reply_of decays row name) ≡ longest_reply
unfolding reply_of
reply_room true row name = peaks_room (peaks_of row)
reply_room false row name = knee_room (knee_of row name)
