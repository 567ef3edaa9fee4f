-- What a report keeps of one function, as words (document 02, 2026-05). Definitions only.
use Rattle.std.specs.Prelude.{
  ℕ,
  zero,
  suc,
  ◌+◌,
  ◌%◌,
  ◌^◌,
  cond,
  ◌&&◌,
  List,
  [],
  ◌++◌,
  length,
  take,
  drop,
  ◌==◌,
  nat_le,
  nat_lt,
  slice_index,
  slice_set,
  to_bits,
  Ok,
  Err,
}
use Rattle.std.specs.Float.{binary64}
use Rattle.refusals.specs.Numbers.{refusal_number}
use Rattle.rounding.specs.Cut.{infinity}
use Rattle.carlson.specs.Answer.{Answer}
use Rattle.exact.specs.Exact.{value_added, sums_joined}
use Rattle.tally.specs.declared.counted.Counted.{Counted}

-- ---- what one answer counts: a refusal its number, a value its rounds and its bits; of an infinity's bits a sum takes nothing
unfoldable pub counted_of : Answer → Counted
counted_of (Ok f) = record { refused = 0; rounds = f.way.rounds; bits = to_bits binary64 f.value }
counted_of (Err r) = record { refused = refusal_number r; rounds = 0; bits = infinity }

-- ---- the words: the calls, "each refusal number's tally" at the place of its number, from 1 to 27, "rounds in all", "the most
-- rounds in one call", and 34 of "the exact sum of the values"
abbrev pub block_words : ℕ
block_words = 64

abbrev pub calls_place : ℕ
calls_place = 0

abbrev pub last_number : ℕ
last_number = 27

abbrev pub rounds_place : ℕ
rounds_place = 28

abbrev pub most_place : ℕ
most_place = 29

abbrev pub sum_place : ℕ
sum_place = 30

-- ---- an answer more
-- a word grows
unfoldable pub grown : List ℕ → ℕ → ℕ → List ℕ
grown ws i n = slice_set ws i ((slice_index ws i + n) % 2 ^ 64)

-- a refusal of that number
unfoldable pub tallied : List ℕ → ℕ → List ℕ
tallied ws n = cond (nat_le 1 n && nat_le n last_number) (grown ws n 1) ws

abbrev pub larger : ℕ → ℕ → ℕ
larger v w = cond (nat_lt v w) w v

-- the most is the larger one
unfoldable pub raised : List ℕ → ℕ → List ℕ
raised ws n = slice_set ws most_place (larger (slice_index ws most_place) n)

-- the value goes into the sum
unfoldable pub summed : List ℕ → ℕ → List ℕ
summed ws b = take sum_place ws ++ value_added (drop sum_place ws) b

unfoldable pub block_added : List ℕ → Counted → List ℕ
block_added ws c =
    cond (length ws == block_words)
    (summed (raised (grown (tallied (grown ws calls_place 1) c.refused) rounds_place c.rounds) c.rounds) c.bits) ws

-- ---- two of them joined
-- the word at a place below the sum
unfoldable pub word_joined : ℕ → ℕ → ℕ → ℕ
word_joined i v w = cond (i == most_place) (larger v w) ((v + w) % 2 ^ 64)

-- so many words from a place on
unfoldable pub slots_joined : ℕ → ℕ → List ℕ → List ℕ → List ℕ
slots_joined i zero ws os = ws
slots_joined i (suc left) ws os = slots_joined (suc i) left (slice_set ws i (word_joined i (slice_index ws i) (slice_index os i))) os

unfoldable pub sums_of : List ℕ → List ℕ → List ℕ
sums_of ws os = take sum_place ws ++ sums_joined (drop sum_place ws) (drop sum_place os)

unfoldable pub block_joined : List ℕ → List ℕ → List ℕ
block_joined ws os =
    cond (length ws == block_words && length os == block_words) (sums_of (slots_joined 0 sum_place ws os) os) ws
