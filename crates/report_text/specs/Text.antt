-- The text of a report, line by line (document 02, 2026-05). Definitions only.
use Rattle.std.specs.Prelude.{ℕ, zero, suc, ◌+◌, ◌*◌, ◌/◌, ◌%◌, ◌^◌, Bool, not, ◌&&◌, cond, List, [], ◌∷◌, ◌++◌, eqb, leb, ltb, length, get_or, take, drop}
use Rattle.std.specs.Float.{binary64}
use Rattle.std.specs.Float.Ieee.{to_bits}
use Rattle.limbs.specs.Value.{value_of}
use Rattle.exact.specs.Exact.{sum_words, below_zero, size_held, rounded_held}
use Rattle.digits.specs.Digits.{digits}
use Rattle.writing.specs.Decimal.{decimal}
use Rattle.unpack_stream.specs.Text.{name_text}
use Rattle.tally.specs.Tally.{block_words, last_number, rounds_place, sum_place}
use Rattle.report_words.specs.Words.{report_words}

-- ---- "report 1"
abbrev pub header_line : List ℕ
header_line = 114 ∷ 101 ∷ 112 ∷ 111 ∷ 114 ∷ 116 ∷ 32 ∷ 49 ∷ []

-- with its end
abbrev pub header_text : List ℕ
header_text = header_line ++ 10 ∷ []

-- ---- a line: the function's name, what it says, a number
-- what the word at a place below the sum is called: " calls ", " refused K ", " rounds ", " most "
unfoldable pub refused_key : ℕ → List ℕ
refused_key i = 32 ∷ 114 ∷ 101 ∷ 102 ∷ 117 ∷ 115 ∷ 101 ∷ 100 ∷ 32 ∷ (decimal 1 i ++ 32 ∷ [])

unfoldable pub slot_key : ℕ → List ℕ
slot_key i =
    cond (eqb i 0) (32 ∷ 99 ∷ 97 ∷ 108 ∷ 108 ∷ 115 ∷ 32 ∷ [])
    (cond (leb i last_number) (refused_key i)
    (cond (eqb i rounds_place) (32 ∷ 114 ∷ 111 ∷ 117 ∷ 110 ∷ 100 ∷ 115 ∷ 32 ∷ []) (32 ∷ 109 ∷ 111 ∷ 115 ∷ 116 ∷ 32 ∷ [])))

unfoldable pub slot_line : ℕ → ℕ → ℕ → List ℕ
slot_line f i v = name_text f ++ (slot_key i ++ decimal 19 v)

-- how many hexadecimal digits n takes, up to as many more than one as are allowed
unfoldable pub hex_places : ℕ → ℕ → ℕ
hex_places zero n = 1
hex_places (suc more) n = cond (ltb n (16 ^ suc more)) (hex_places more n) (suc (suc more))

-- "in upper-case hex without leading zeros"; a sum has 543 digits more than one at most
abbrev pub hex_most : ℕ
hex_most = 543

unfoldable pub hex_text : ℕ → List ℕ
hex_text n = digits 16 (hex_places hex_most n) n

-- "`-` before it where below zero"
unfoldable pub sign_text : ℕ → List ℕ
sign_text w = cond (below_zero w) (45 ∷ []) []

-- " exact " and the exact sum times 2 ^ 1074
unfoldable pub exact_line : ℕ → ℕ → List ℕ
exact_line f w = name_text f ++ (32 ∷ 101 ∷ 120 ∷ 97 ∷ 99 ∷ 116 ∷ 32 ∷ (sign_text w ++ hex_text (size_held w)))

-- " sum " and "that rounded once, its sixteen digits"
unfoldable pub sum_line : ℕ → ℕ → List ℕ
sum_line f w = name_text f ++ (32 ∷ 115 ∷ 117 ∷ 109 ∷ 32 ∷ digits 16 16 (to_bits binary64 (rounded_held w)))

-- ---- the lines of a report, by a number q from 0 to 191: 32 for each function, a word's each below 30, then exact, then sum
abbrev pub line_count : ℕ
line_count = 192

abbrev pub block_at : ℕ → ℕ
block_at q = q / 32

abbrev pub slot_at : ℕ → ℕ
slot_at q = q % 32

-- the place among the words of what the line says
abbrev pub place_at : ℕ → ℕ
place_at q = block_at q * block_words + slot_at q

-- the sum of its block, as it is held
unfoldable pub held_at : List ℕ → ℕ → ℕ
held_at ws q = value_of (take sum_words (drop (block_at q * block_words + sum_place) ws))

unfoldable pub line_at : List ℕ → ℕ → List ℕ
line_at ws q =
    cond (ltb (slot_at q) sum_place) (slot_line (block_at q + 1) (slot_at q) (get_or ws (place_at q) 0))
    (cond (eqb (slot_at q) sum_place) (exact_line (block_at q + 1) (held_at ws q)) (sum_line (block_at q + 1) (held_at ws q)))

-- a tally's
unfoldable pub tally_at : ℕ → Bool
tally_at q = leb 1 (slot_at q) && leb (slot_at q) last_number

-- "nothing left out but tallies of 0"
unfoldable pub left_out : List ℕ → ℕ → Bool
left_out ws q = tally_at q && eqb (get_or ws (place_at q) 0) 0

unfoldable pub lines_from : ℕ → ℕ → List ℕ → List (List ℕ)
lines_from q zero ws = []
lines_from q (suc left) ws = cond (left_out ws q) (lines_from (suc q) left ws) (line_at ws q ∷ lines_from (suc q) left ws)

unfoldable pub report_lines : List ℕ → List (List ℕ)
report_lines ws = header_line ∷ lines_from 0 line_count ws

-- "a header, then for each function, in the order of their numbers, these lines"
unfoldable pub lines_text : List (List ℕ) → List ℕ
lines_text [] = []
lines_text (l ∷ ls) = l ++ 10 ∷ lines_text ls

-- ---- what is written of a line: with its end, and nothing of one that is left out or is no line of a report
unfoldable pub written : List ℕ → ℕ → Bool
written ws q = eqb (length ws) report_words && (ltb q line_count && not (left_out ws q))

unfoldable pub line_text : List ℕ → ℕ → List ℕ
line_text ws q = cond (written ws q) (line_at ws q ++ 10 ∷ []) []

-- room for the longest of each kind: a name 3, a key 12, a u64 20; " exact " 7, a sign, 544 digits; " sum " 5, 16 digits
abbrev pub header_room : ℕ
header_room = 9

abbrev pub slot_room : ℕ
slot_room = 35

abbrev pub exact_room : ℕ
exact_room = 555

abbrev pub sum_room : ℕ
sum_room = 24

-- and for any line with its end
abbrev pub line_room : ℕ
line_room = 556
