-- Reading a decimal as C sees it: 0 with the value written, or a number for no, and with 26 the place. Definitions only.
use Rattle.std.specs.Prelude.{ℕ, Result, Ok, Err, Float}
use Rattle.decimal_read.specs.declared.NoDecimal.{NoDecimal}
use Rattle.decimal_read.specs.declared.NoDecimal.TheVariants.{TooLarge, NoNumber}
use Rattle.refusals.specs.Numbers.{refusal_number}
use Rattle.refusals.specs.declared.Refusal.TheVariants.{TooLarge as Larger, NoNumber as NoDigits}

-- 0, 25 or 26
abbrev pub read_number : Result Float NoDecimal → ℕ
read_number (Ok x) = 0
read_number (Err TooLarge) = refusal_number Larger
read_number (Err (NoNumber at)) = refusal_number NoDigits

-- what stands in the value's place afterwards, and what stood there before; and in the place's
abbrev pub read_value : Result Float NoDecimal → Float → Float
read_value (Ok x) before = x
read_value (Err TooLarge) before = before
read_value (Err (NoNumber at)) before = before

abbrev pub read_place : Result Float NoDecimal → ℕ → ℕ
read_place (Ok x) before = before
read_place (Err TooLarge) before = before
read_place (Err (NoNumber at)) before = at
