-- The bench's lines as they come, byte by byte. Definitions only.
use Rattle.std.specs.Prelude.{ℕ, Bool, false, cond, List, [], ◌∷◌, ◌++◌, eqb, length, take}
use Rattle.writing.specs.Fed.{Ran, quiet, run}
use Rattle.bench_read.specs.Rows.{row_from, named, row_after}
use Rattle.bench_read.specs.declared.rows.Field.TheVariants.{Name, Times}
use Rattle.bench_read.specs.declared.rows.Row.{Row}
use Rattle.bench_write.specs.Texts.{text_under}
use Rattle.bench_write.specs.declared.said.Said.{Said}
use Rattle.bench_replies.specs.Replies.{reply_of, tallied_of}
use Rattle.bench_stream.specs.declared.lines.State.{State}

-- ---- the code's state
-- at a line's start: of peaks, or of a knee
unfoldable pub start_row : Bool → Row
start_row decays = cond decays (row_from Times) (row_from Name)

-- before the first byte
unfoldable pub state_from : Bool → State
state_from decays = record {
  decays = decays;
  row = start_row decays;
  tally = record { passed = 0; dragging = 0; refused = 0; bad = 0 };
}

unfoldable pub state_after : State → ℕ → State
state_after s b = record { decays = s.decays; row = row_after s.row b; tally = s.tally }

unfoldable pub state_heard : State → Said → State
state_heard s reply = record { decays = s.decays; row = start_row s.decays; tally = tallied_of s.tally reply }

-- ---- with the name that is held of a line that has not ended: one byte more than the longest good one has
pub record Open : Type 0 where
  pub state : State
  pub name : List ℕ

abbrev pub under : State → List ℕ → Open
under s name = record { state = s; name = name }

abbrev pub held_length : ℕ
held_length = 33

unfoldable pub name_after : Row → List ℕ → ℕ → List ℕ
name_after row name b = cond (named row b) (take held_length (name ++ b ∷ [])) name

unfoldable pub open_after : Open → ℕ → Open
open_after s b = under (state_after s.state b) (name_after s.state.row s.name b)

-- ---- the line that is read so far ends
unfoldable pub reply_now : Open → Said
reply_now s = reply_of s.state.decays s.state.row (length s.name)

unfoldable pub said : Open → List ℕ
said s = text_under (reply_now s) s.name

unfoldable pub heard : Open → Open
heard s = under (state_heard s.state (reply_now s)) []

-- nothing is counted
abbrev pub line_end : Open → Ran Open
line_end s = record { said = said s; count = 0; left = heard s }

-- ---- one byte: a newline ends the line
unfoldable pub bench_byte : Open → ℕ → Ran Open
bench_byte s b = cond (eqb b 10) (line_end s) (quiet (open_after s b))

-- some bytes, whatever they are
abbrev pub bench_from : Open → List ℕ → Ran Open
bench_from = run bench_byte (λ s. false)
