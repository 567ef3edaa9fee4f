-- The numbers of a line. Definitions only.
use Rattle.std.specs.Prelude.{ℕ, zero, suc, ◌+◌, ◌%◌, ◌^◌, cond, Result, Ok, Err, List, length, ◌==◌, nat_lt, to_bits, Float}
use Rattle.std.specs.Float.{binary64}
use Rattle.decimal_read.specs.Read.{read_of}
use Rattle.decimal_read.specs.declared.NoDecimal.{NoDecimal}
use Rattle.decimal_read.specs.declared.NoDecimal.TheVariants.{TooLarge as Over, NoNumber as NoDigits}
use Rattle.spoken_parts.specs.declared.said.Bad.{Bad}
use Rattle.spoken_parts.specs.declared.said.Bad.TheVariants.{NoNumber, TooLarge}
use Rattle.spoken_read.specs.Words.{begins_at, ends_at, word_at}
use Rattle.spoken_read.specs.declared.numbers.Numbers.{Numbers}

abbrev pub no_numbers : Numbers
no_numbers = record { count = 0; a = 0; b = 0; c = 0; d = 0 }

-- one more: the first four are kept, and five are as many as more
unfoldable pub with_number : Numbers → ℕ → Numbers
with_number n x = record {
  count = cond (nat_lt n.count 5) (n.count + 1) n.count;
  a = cond (n.count == 0) x n.a;
  b = cond (n.count == 1) x n.b;
  c = cond (n.count == 2) x n.c;
  d = cond (n.count == 3) x n.d;
}

-- a place counted from 1, where people read it
unfoldable pub place_of : ℕ → ℕ → ℕ
place_of at more = ((at + more) % 2 ^ 64 + 1) % 2 ^ 64

-- why the word that begins at a place is no number
unfoldable pub told_at : ℕ → NoDecimal → Bad
told_at at Over = TooLarge (place_of at 0)
told_at at (NoDigits i) = NoNumber (place_of at i)

-- a word that begins at a place, read: the next one, or why there is none
unfoldable pub taken_by : (Numbers → Result Numbers Bad) → ℕ → Numbers → Result Float NoDecimal → Result Numbers Bad
taken_by on at so (Ok x) = on (with_number so (to_bits binary64 x))
taken_by on at so (Err why) = Err (told_at at why)

-- the words from a place on at which one begins or the line ends; a word is not empty, so that the line's length is turns enough
unfoldable pub taken_from : ℕ → List ℕ → ℕ → Numbers → Result Numbers Bad
taken_from zero line at so = Ok so
taken_from (suc n) line at so =
    cond (nat_lt at (length line)) (taken_by (taken_from n line (begins_at line (ends_at line at))) at so (read_of (word_at line at)))
    (Ok so)

unfoldable pub taken_of : List ℕ → ℕ → Result Numbers Bad
taken_of line start = taken_from (length line) line (begins_at line start) no_numbers
