-- A report's text read back: a line is taken if it is just the line that would be written of what it says. Definitions only.
use Rattle.std.specs.Prelude.{ℕ, zero, suc, ◌+◌, ◌-◌, ◌*◌, ◌%◌, ◌^◌, Bool, true, false, not, ◌&&◌, cond, List, Option, Some, None, [], ◌∷◌, ◌++◌, eqb, ltb, length, take, drop, set, replicate}
use Rattle.limbs.specs.Value.{limbs_of}
use Rattle.exact.specs.Exact.{sum_words, turn}
use Rattle.digits.specs.Digits.{digit_of}
use Rattle.tally.specs.Tally.{block_words, sum_place}
use Rattle.listing_read.specs.Lines.{same}
use Rattle.report_words.specs.Words.{report_words}
use Rattle.report_text.specs.Text.{block_at, slot_at, place_at, line_at, line_count, tally_at, left_out}

-- the number at a line's end, modulo m: every byte that is no digit begins it anew
unfoldable pub number_step : ℕ → ℕ → ℕ → ℕ → ℕ
number_step base m v b = cond (ltb (digit_of b) base) ((v * base + digit_of b) % m) 0

unfoldable pub trailing : ℕ → ℕ → ℕ → List ℕ → ℕ
trailing base m v [] = v
trailing base m v (b ∷ bs) = trailing base m (number_step base m v b) bs

-- whether a line has a minus in it
unfoldable pub has_minus : List ℕ → Bool
has_minus [] = false
has_minus (b ∷ bs) = cond (eqb b 45) true (has_minus bs)

-- a sum's number as it is held
unfoldable pub held_from : Bool → ℕ → ℕ
held_from minus n = cond minus ((turn - n) % turn) n

unfoldable pub said_sum : List ℕ → ℕ
said_sum line = held_from (has_minus line) (trailing 16 turn 0 line)

-- the words with 34 others in the place of a block's sum
unfoldable pub with_sum : List ℕ → ℕ → List ℕ → List ℕ
with_sum ws q ss =
    take (block_at q * block_words + sum_place) ws ++ (ss ++ drop sum_words (drop (block_at q * block_words + sum_place) ws))

-- the words with what a line says in the place of its line q
unfoldable pub placed : List ℕ → ℕ → List ℕ → List ℕ
placed ws q line =
    cond (ltb (slot_at q) sum_place) (set ws (place_at q) (trailing 10 (2 ^ 64) 0 line))
    (cond (eqb (slot_at q) sum_place) (with_sum ws q (limbs_of sum_words (said_sum line))) ws)

-- it is the line q
unfoldable pub fits_at : List ℕ → ℕ → List ℕ → Bool
fits_at ws q line = not (left_out (placed ws q line) q) && same (line_at (placed ws q line) q) line

-- the words after a try at it
unfoldable pub tried_at : List ℕ → ℕ → List ℕ → List ℕ
tried_at ws q line = cond (fits_at ws q line) (placed ws q line) ws

-- ---- after a line: the number of the line that may come next, and the words; or that it is none
pub data After : Type 0 where
  took : ℕ → List ℕ → After
  bad : After

-- the line q, or one after it that comes where tallies of 0 are left out
unfoldable pub take_line : ℕ → ℕ → List ℕ → List ℕ → After
take_line q zero ws line = bad
take_line q (suc left) ws line =
    cond (fits_at ws q line) (took (suc q) (placed ws q line)) (cond (tally_at q) (take_line (suc q) left ws line) bad)

-- lines one after the other
unfoldable pub take_lines : After → List (List ℕ) → After
take_lines t [] = t
take_lines bad (l ∷ ls) = bad
take_lines (took q ws) (l ∷ ls) = take_lines (take_line q (line_count - q) ws l) ls

-- no word yet
abbrev pub no_words : List ℕ
no_words = replicate report_words 0

-- ---- what the function answers: words in another number than a report's take no line
unfoldable pub line_taken : ℕ → List ℕ → List ℕ → After
line_taken q ws line = cond (eqb (length ws) report_words) (take_line q (line_count - q) ws line) bad

unfoldable pub answer_of : After → Option ℕ
answer_of (took q ws) = Some q
answer_of bad = None

-- the words that it leaves: as they were where the line is none
unfoldable pub words_of : List ℕ → After → List ℕ
words_of ws (took q vs) = vs
words_of ws bad = ws
