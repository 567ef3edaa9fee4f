-- The bench's input as a whole: a reply to each line, and the tallies at its end, if they are asked for. Definitions only.
use Rattle.std.specs.Prelude.{ℕ, Bool, cond, List, [], ◌∷◌, ◌++◌, take}
use Rattle.writing.specs.Fed.{Ran, quiet, Fed}
use Rattle.bench_read.specs.Rows.{fresh_at}
use Rattle.bench_write.specs.Texts.{tallies_text}
use Rattle.bench_write.specs.declared.tallies.Tally.{Tally}
use Rattle.bench_stream.specs.Lines.{Open, under, open_after, said, heard, line_end}
use Rattle.bench_stream.specs.declared.stream.Progress.{Progress}

-- ---- at the input's end: a line that has begun ends there; then the tallies
unfoldable pub said_at_end : Bool → Tally → List ℕ
said_at_end summary tally = cond summary (tallies_text tally) []

unfoldable pub input_end : Open → Ran Open
input_end s = cond (fresh_at s.state.row.stage) (quiet s) (line_end s)

unfoldable pub said_last : Bool → Open → List ℕ
said_last summary s = (input_end s).said ++ said_at_end summary (input_end s).left.state.tally

-- ---- what is right: a reply to each line of the input, in order, and what is said at its end
unfoldable pub opened : Open → List ℕ → Open
opened s [] = s
opened s (b ∷ l) = opened (open_after s b) l

unfoldable pub replies_from : Bool → Open → List (List ℕ) → List ℕ
replies_from summary s [] = said_at_end summary s.state.tally
replies_from summary s (l ∷ ls) = said (opened s l) ++ replies_from summary (heard (opened s l)) ls

-- so many bytes are read at once: the replies to them fit, if each ends a line
abbrev pub block_length : ℕ
block_length = 512

-- ---- what a function that is fed some bytes does: some of the bytes in `after` are held, and what is said was put into `out`
abbrev pub Benches : Ran Open → List ℕ → List ℕ → ℕ → List ℕ → Progress → Type 0
Benches p after before at out r = Fed p (under r.state (take r.held after)) before at out r.used 0
