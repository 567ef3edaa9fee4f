-- A report as words: six blocks, one for each function that the work lists know (document 02, 2026-05). Definitions only.
use Rattle.std.specs.Prelude.{ℕ, zero, suc, ◌+◌, ◌-◌, ◌*◌, Bool, ◌&&◌, cond, List, Option, Some, None, ◌++◌, eqb, leb, ltb, length, get_or, take, drop, Float}
use Rattle.exact.specs.Exact.{sum_words, held_by, rounded_held}
use Rattle.tally.specs.Tally.{block_words, last_number, sum_place, block_added, block_joined}
use Rattle.tally.specs.declared.counted.Counted.{Counted}

abbrev pub functions : ℕ
functions = 6

abbrev pub report_words : ℕ
report_words = 384

-- so many words are a report's, and the function's number is one that the work lists know, 1 to 6
unfoldable pub stands_in : ℕ → ℕ → Bool
stands_in n f = eqb n report_words && (leb 1 f && leb f functions)

-- the block of number k, counted from 0, and the words with another block in its place
abbrev pub block_in : List ℕ → ℕ → List ℕ
block_in ws k = take block_words (drop (k * block_words) ws)

abbrev pub with_block : List ℕ → ℕ → List ℕ → List ℕ
with_block ws k bs = take (k * block_words) ws ++ (bs ++ drop block_words (drop (k * block_words) ws))

-- ---- an answer more of the function with that number
unfoldable pub counted_added : List ℕ → ℕ → Counted → List ℕ
counted_added ws f c =
    cond (stands_in (length ws) f) (with_block ws (f - 1) (block_added (block_in ws (f - 1)) c)) ws

-- ---- "more than 2 ^ 32 - 1 calls in all": the calls of the first k functions
unfoldable pub calls_in : ℕ → List ℕ → ℕ
calls_in zero ws = 0
calls_in (suc k) ws = calls_in k ws + get_or ws (k * block_words) 0

unfoldable pub calls_in_all : List ℕ → ℕ
calls_in_all ws = cond (eqb (length ws) report_words) (calls_in functions ws) 0

-- what is left of so much room for calls; nothing where there are more already
unfoldable pub room_after : ℕ → List ℕ → Option ℕ
room_after room ws = cond (leb (calls_in_all ws) room) (Some (room - calls_in_all ws)) None

-- ---- "Two partial reports can be joined": so many blocks from one on
unfoldable pub blocks_joined : ℕ → ℕ → List ℕ → List ℕ → List ℕ
blocks_joined k zero ws os = ws
blocks_joined k (suc left) ws os =
    blocks_joined (suc k) left (with_block ws k (block_joined (block_in ws k) (block_in os k))) os

unfoldable pub words_joined : List ℕ → List ℕ → List ℕ
words_joined ws os =
    cond (eqb (length ws) report_words && eqb (length os) report_words) (blocks_joined 0 functions ws os) ws

-- ---- what stands in it
-- the word at a place of the function's block, 0 for any other function
unfoldable pub word_at : List ℕ → ℕ → ℕ → ℕ
word_at ws f i =
    cond (ltb i block_words && stands_in (length ws) f) (get_or ws ((f - 1) * block_words + i) 0) 0

unfoldable pub refused_at : List ℕ → ℕ → ℕ → ℕ
refused_at ws f n = cond (leb 1 n && leb n last_number) (word_at ws f n) 0

-- the exact sum rounded once; "any other function: sum +0"
unfoldable pub sum_at : List ℕ → ℕ → Float
sum_at ws f =
    rounded_held (cond (stands_in (length ws) f) (held_by (take sum_words (drop ((f - 1) * block_words + sum_place) ws))) 0)
