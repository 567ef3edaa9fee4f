-- A line of one or three decimal numbers, byte by byte (docs/DECISIONS.md, "The swing's lines"). A line that is bad, whatever
-- comes, is None. Definitions only.
use Rattle.std.specs.Prelude.{ℕ, ◌+◌, ◌-◌, ◌*◌, ◌^◌, Bool, true, false, cond, List, [], ◌∷◌, eqb, ltb, Option, Some, None}
use Rattle.std.specs.Option.{option_and_then}
use Rattle.swing_read.specs.declared.Ended.{Ended}
use Rattle.swing_read.specs.declared.Ended.TheVariants.{NoneYet, First, Second}
use Rattle.swing_read.specs.declared.Reading.{Reading}
use Rattle.swing_read.specs.declared.Line.{Line}
use Rattle.swing_read.specs.declared.Line.TheVariants.{One, Three}

-- nothing has come
unfoldable pub start_of : Reading
start_of = record { ended = NoneYet; value = None }

-- a number has just ended, and the next has no figure
abbrev pub ended_so : Ended → Option Reading
ended_so numbers = Some (record { ended = numbers; value = None })

-- one blank ends a number that has a figure, and at most two numbers end so
unfoldable pub ending : Option ℕ → Ended → Option Reading
ending None numbers = None
ending (Some n) NoneYet = ended_so (First n)
ending (Some n) (First a) = ended_so (Second a n)
ending (Some n) (Second a b) = None

unfoldable pub blank_after : Reading → Option Reading
blank_after r = ending r.value r.ended

-- a figure from `0` (48) to `9`
unfoldable pub figure_of : ℕ → Option ℕ
figure_of b = cond (ltb b 48) None (cond (ltb b 58) (Some (b - 48)) None)

-- a figure more, and a number is a u64
unfoldable pub longer_value : Option ℕ → ℕ → Option ℕ
longer_value None d = Some d
longer_value (Some n) d = cond (ltb (n * 10 + d) (2 ^ 64)) (Some (n * 10 + d)) None

unfoldable pub longer_after : Reading → ℕ → Option Reading
longer_after r d = option_and_then (λ n. Some (record { ended = r.ended; value = Some n })) (longer_value r.value d)

-- a zero in front
unfoldable pub zero_alone : Option ℕ → Bool
zero_alone None = false
zero_alone (Some n) = eqb n 0

-- no digit comes after it
unfoldable pub digit_after : Reading → ℕ → Option Reading
digit_after r d = cond (zero_alone r.value) None (longer_after r d)

-- a blank (32), a digit, or what no good line has
unfoldable pub byte_after : Option Reading → ℕ → Option Reading
byte_after None b = None
byte_after (Some r) b = cond (eqb b 32) (blank_after r) (option_and_then (digit_after r) (figure_of b))

unfoldable pub bytes_after : Option Reading → List ℕ → Option Reading
bytes_after r [] = r
bytes_after r (b ∷ bs) = bytes_after (byte_after r b) bs

-- one number, or three; all else is bad
unfoldable pub closing : Option ℕ → Ended → Option Line
closing None numbers = None
closing (Some n) NoneYet = Some (One n)
closing (Some n) (First a) = None
closing (Some n) (Second a b) = Some (Three a b n)

unfoldable pub line_of : Option Reading → Option Line
line_of None = None
line_of (Some r) = closing r.value r.ended

-- nothing has come of the line
unfoldable pub unbegun : Option ℕ → Ended → Bool
unbegun None NoneYet = true
unbegun None (First a) = false
unbegun None (Second a b) = false
unbegun (Some n) numbers = false

unfoldable pub at_start : Option Reading → Bool
at_start None = false
at_start (Some r) = unbegun r.value r.ended

-- the line that these bytes are
unfoldable pub read_line : List ℕ → Option Line
read_line l = line_of (bytes_after (Some start_of) l)
