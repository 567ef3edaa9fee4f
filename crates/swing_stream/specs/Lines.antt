-- A line of the swing's or of the step log's that has ended: the state after it, and what is said to it. Definitions only.
use Rattle.std.specs.Prelude.{ℕ, cond, List, [], ltb, Option, Some, None}
use Rattle.std.specs.Option.{is_some, option_or}
use Rattle.writing.specs.Bad.{bad_text}
use Rattle.swing.specs.Period.{period_of}
use Rattle.steplog.specs.Steps.{log_from, log_after}
use Rattle.steplog.specs.declared.Log.{Log}
use Rattle.swing_read.specs.declared.Line.{Line}
use Rattle.swing_read.specs.declared.Line.TheVariants.{One, Three}
use Rattle.millimetres.specs.Measured.{lengths_from, plain_from}
use Rattle.millimetres.specs.declared.Measured.{Measured}
use Rattle.swing_write.specs.Replies.{swing_text}
use Rattle.swing_stream.specs.declared.lines.Kind.{Kind}
use Rattle.swing_stream.specs.declared.lines.Kind.TheVariants.{Periods, Steps}
use Rattle.swing_stream.specs.declared.lines.State.{State}

-- at a line's start: the swing's has lengths, which may be in millimetres, the step log's has none
unfoldable pub line_start : Kind → Measured
line_start Periods = lengths_from
line_start (Steps log) = plain_from

-- before the first byte: the swing's lines, or the step log's
unfoldable pub swings_from : State
swings_from = record { kind = Periods; reading = line_start Periods }

unfoldable pub steps_from : State
steps_from = record { kind = Steps None; reading = line_start (Steps None) }

-- ---- a line of the swing: L, h and g
unfoldable pub swing_said : Option Line → List ℕ
swing_said None = bad_text
swing_said (Some (One n)) = bad_text
swing_said (Some (Three length height gravity)) = swing_text (period_of length height gravity)

-- ---- a line of the step log: first the total, then a reading of 16 bits a line
unfoldable pub noted : Option Log → ℕ → Option Log
noted None n = Some (log_from n)
noted (Some log) n = cond (ltb n 65536) (Some (log_after log n)) None

unfoldable pub entered : Option Log → Option Line → Option Log
entered log None = None
entered log (Some (One n)) = noted log n
entered log (Some (Three length height gravity)) = None

-- a line that is neither is bad, and is left out
unfoldable pub steps_said : Option Log → Option Line → List ℕ
steps_said log l = cond (is_some (entered log l)) [] bad_text

-- ---- of either
unfoldable pub kind_after : Kind → Option Line → Kind
kind_after Periods l = Periods
kind_after (Steps log) l = Steps (option_or (entered log l) log)

unfoldable pub after_line : State → Option Line → State
after_line s l = record { kind = kind_after s.kind l; reading = line_start s.kind }

unfoldable pub said_in : Kind → Option Line → List ℕ
said_in Periods l = swing_said l
said_in (Steps log) l = steps_said log l

unfoldable pub said_to : State → Option Line → List ℕ
said_to s l = said_in s.kind l
