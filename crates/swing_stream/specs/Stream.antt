-- The swing's lines and the step log's as they come, byte by byte. Definitions only.
use Rattle.std.specs.Prelude.{ℕ, ◌+◌, false, cond, Some, None, List, [], ◌∷◌, ◌++◌, eqb}
use Rattle.writing.specs.Bad.{bad_text}
use Rattle.writing.specs.Fed.{Ran, quiet, Fed, run}
use Rattle.swing_read.specs.Reading.{line_of}
use Rattle.millimetres.specs.Measured.{byte_measured, at_end, measured_line, unread}
use Rattle.swing_write.specs.Replies.{total_text, longest_swing, longest_total}
use Rattle.swing_stream.specs.Lines.{line_start, after_line, said_to}
use Rattle.swing_stream.specs.declared.lines.Kind.{Kind}
use Rattle.swing_stream.specs.declared.lines.Kind.TheVariants.{Periods, Steps}
use Rattle.swing_stream.specs.declared.lines.State.{State}
use Rattle.swing_stream.specs.declared.stream.Progress.{Progress}

-- ---- the line that is read so far ends
unfoldable pub heard : State → State
heard s = after_line s (line_of (at_end s.reading))

unfoldable pub said : State → List ℕ
said s = said_to s (line_of (at_end s.reading))

-- nothing is counted
abbrev pub line_end : State → Ran State
line_end s = record { said = said s; count = 0; left = heard s }

-- ---- one byte: a newline ends the line
unfoldable pub swing_byte : State → ℕ → Ran State
swing_byte s b = cond (eqb b 10) (line_end s) (quiet (record { kind = s.kind; reading = byte_measured s.reading b }))

-- some bytes, whatever they are
abbrev pub swing_from : State → List ℕ → Ran State
swing_from = run swing_byte (λ s. false)

-- ---- at the input's end: a line that has begun ends there; then the step log's total, if one was given
unfoldable pub said_ending : Kind → List ℕ
said_ending Periods = []
said_ending (Steps None) = bad_text
said_ending (Steps (Some log)) = total_text log.sum

unfoldable pub said_at_end : State → List ℕ
said_at_end s = said_ending s.kind

unfoldable pub said_last : State → List ℕ
said_last s = cond (unread s.reading) (said_at_end s) (said s ++ said_at_end (heard s))

-- ---- what is right: a reply to each line of the input, in order, and what is said at its end
unfoldable pub replies_from : State → List (List ℕ) → List ℕ
replies_from s [] = said_at_end s
replies_from s (l ∷ ls) =
    let line = measured_line (line_start s.kind) l in
    said_to s line ++ replies_from (after_line s line) ls

-- so many bytes are read at once: the replies to them fit, if each ends a line
abbrev pub block_length : ℕ
block_length = 1024

-- at the input's end no more is said than to a line, and the total
abbrev pub longest_last : ℕ
longest_last = longest_swing + longest_total

-- ---- what a function that is fed some bytes does: the state that it comes to, and what is said was put into `out`
abbrev pub Swings : Ran State → List ℕ → ℕ → List ℕ → Progress → Type 0
Swings p before at out r = Fed p r.state before at out r.used 0
