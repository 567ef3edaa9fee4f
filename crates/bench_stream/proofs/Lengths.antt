-- How long what is said is. Assumes nothing.
use Prim.Native.Nat.{ℕ, ◌+◌, ◌≤◌}
use mathlib.Core.Bool.{Bool, true, false, cond}
use mathlib.Core.List.{[]}
use native.Mathlib.Omega.{arith}
use lib.Dec.{eqb}
use lib.ListN.{length, length-append}
use Rattle.writing.specs.Fed.{quiet}
use Rattle.writing.specs.FedLaws.{Short}
use Rattle.bench_read.specs.Rows.{fresh_at}
use Rattle.bench_write.specs.Texts.{said_text, shown_of, text_under, tallies_text, longest_reply, longest_tallies, longest_of}
use Rattle.bench_write.specs.PieceLaws.{under_length}
use Rattle.bench_write.specs.declared.said.Said.TheVariants.{Tallies}
use Rattle.bench_write.specs.declared.tallies.Tally.{Tally}
use Rattle.bench_replies.specs.Replies.{reply_of}
use Rattle.bench_replies.specs.Room.{reply_room}
use Rattle.bench_stream.specs.Lines.{Open, open_after, reply_now, said, line_end, bench_byte}
use Rattle.bench_stream.specs.Stream.{said_at_end, input_end, said_last}

pub said_length : (s : Open) → length (said s) ≤ longest_reply
unfolding said reply_now
said_length s =
    let st = s.state in
    rw (reply_room st.decays st.row (length s.name))
    at (under_length (reply_of st.decays st.row (length s.name)) s.name)

pub byte_short : (s : Open) (b : ℕ) → Short longest_reply 0 (bench_byte s b)
unfolding bench_byte
byte_short s b = go (eqb b 10)
  where
    go : (t : Bool) → Short longest_reply 0 (cond t (line_end s) (quiet (open_after s b)))
    go true = (said_length s, omega arith)
    go false = (omega arith, omega arith)

tallies_length : (t : Tally) → length (tallies_text t) ≤ longest_tallies
tallies_length t = unfold text_under shown_of said_text longest_of in under_length (Tallies t) []

at_end_length : (summary : Bool) (t : Tally) → length (said_at_end summary t) ≤ longest_tallies
unfolding said_at_end
at_end_length true t = tallies_length t
at_end_length false t = omega arith

pub end_length : (s : Open) → length (input_end s).said ≤ longest_reply
unfolding input_end
end_length s = go (fresh_at s.state.row.stage)
  where
    go : (t : Bool) → length (cond t (quiet s) (line_end s)).said ≤ longest_reply
    go true = omega arith
    go false = said_length s

pub last_length : (summary : Bool) (s : Open) → length (said_last summary s) ≤ longest_reply + longest_tallies
unfolding said_last
last_length summary s =
    rw length-append (omega (arith, end_length s, at_end_length summary (input_end s).left.state.tally))
