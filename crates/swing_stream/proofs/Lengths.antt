-- How long what is said is. Assumes nothing.
use Prim.Native.Nat.{ℕ, ◌≤◌}
use mathlib.Core.Bool.{Bool, true, false, cond}
use mathlib.Core.List.{List, []}
use lib.Dec.{eqb}
use lib.ListN.{length}
use native.Mathlib.Omega.{arith}
use Rattle.writing.specs.Bad.{bad_text}
use Rattle.writing.specs.Fed.{quiet}
use Rattle.writing.specs.FedLaws.{Short}
use Rattle.swing.specs.Period.{period_of}
use Rattle.swing_read.specs.Reading.{line_of}
use Rattle.swing_read.specs.declared.Line.{Line}
use Rattle.swing_read.specs.declared.Line.TheVariants.{One, Three}
use Rattle.millimetres.specs.Measured.{at_end}
use Rattle.swing_write.specs.Replies.{longest_swing, longest_total}
use Rattle.swing_write.specs.Lengths.{swing_length, total_length}
use Rattle.std.specs.Prelude.{Option, Some, None}
use Rattle.std.specs.Option.{is_some}
use Rattle.steplog.specs.declared.Log.{Log}
use Rattle.swing_stream.specs.Lines.{entered, swing_said, steps_said, said_in, said_to}
use Rattle.swing_stream.specs.Stream.{said, line_end, swing_byte, said_ending, said_at_end}
use Rattle.swing_stream.specs.declared.lines.Kind.{Kind}
use Rattle.swing_stream.specs.declared.lines.Kind.TheVariants.{Periods, Steps}
use Rattle.swing_stream.specs.declared.lines.State.{State}

either : (t : Bool) (a b : List ℕ) (k : ℕ) → length a ≤ k → length b ≤ k → length (cond t a b) ≤ k
either true a b k h g = h
either false a b k h g = g

swing_said_length : (l : Option Line) → length (swing_said l) ≤ longest_swing
unfolding swing_said
swing_said_length None = omega arith
swing_said_length (Some (One n)) = omega arith
swing_said_length (Some (Three a b c)) = swing_length (period_of a b c)

steps_said_length : (log : Option Log) (l : Option Line) → length (steps_said log l) ≤ longest_swing
unfolding steps_said
steps_said_length log l = either (is_some (entered log l)) [] bad_text longest_swing (omega arith) (omega arith)

said_in_length : (k : Kind) (l : Option Line) → length (said_in k l) ≤ longest_swing
unfolding said_in
said_in_length Periods l = swing_said_length l
said_in_length (Steps log) l = steps_said_length log l

pub said_length : (s : State) → length (said s) ≤ longest_swing
unfolding said said_to
said_length s = said_in_length s.kind (line_of (at_end s.reading))

pub byte_short : (s : State) (b : ℕ) → Short longest_swing 0 (swing_byte s b)
unfolding swing_byte
byte_short s b = go (eqb b 10) _
  where
    go : (t : Bool) (u : State) → Short longest_swing 0 (cond t (line_end s) (quiet u))
    go true u = (said_length s, omega arith)
    go false u = (omega arith, omega arith)

ending_length : (k : Kind) → length (said_ending k) ≤ longest_total
unfolding said_ending
ending_length Periods = omega arith
ending_length (Steps None) = omega arith
ending_length (Steps (Some log)) = total_length log.sum

pub said_end_length : (s : State) → length (said_at_end s) ≤ longest_total
unfolding said_at_end
said_end_length s = ending_length s.kind
