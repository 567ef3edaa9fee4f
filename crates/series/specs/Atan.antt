-- atan of an f64: the whole-number rule's answer, rounded once (document 01, "What the leaves mean"). Definitions only.
use Rattle.std.specs.Prelude.{ℕ, ◌+◌, ◌-◌, ◌*◌, ◌/◌, ◌^◌, Bool, cond, ◌==◌, nat_le, nat_lt, to_bits, Float}
use Rattle.std.specs.Float.{nan, binary64}
use Rattle.std.specs.Float.Ieee.{round}
use Rattle.rounding.specs.Cut.{infinity}
use Rattle.enclosure.specs.Rules.{atan_answer, half_pi, steep_answer}
use Rattle.series.specs.Pattern.{negative, size_bits, field, digits}

-- the patterns of 2 ^ -27, 1 and 2 ^ 63
abbrev pub tiny : ℕ
tiny = 0x3e40_0000_0000_0000

abbrev pub one : ℕ
one = 0x3ff0_0000_0000_0000

abbrev pub far : ℕ
far = 0x43e0_0000_0000_0000

-- Below 1 the size is digits * 2 ^ 9 parts of 2 ^ -(62 + j), where the field is 1022 - j.
abbrev pub below_one : Bool → ℕ → Float
below_one s a = let j = 1022 - field a in round binary64 s (atan_answer j (digits a * 2 ^ 9)) (2 ^ (62 + j))

abbrev pub at_one : Bool → Float
at_one s = round binary64 s (atan_answer 0 (2 ^ 62)) (2 ^ 62)

-- Above 1 the size is digits * 2 ^ (e - 52), where the field is 1023 + e, and its inverse 2 ^ 114 / digits / 2 ^ e parts of 2 ^
-- -62.
abbrev pub above_one : Bool → ℕ → Float
above_one s a = round binary64 s (steep_answer (2 ^ 114 / digits a / 2 ^ (field a - 1023))) (2 ^ 62)

-- where nothing is left of the inverse
abbrev pub at_infinity : Bool → Float
at_infinity s = round binary64 s half_pi (2 ^ 62)

-- x has the sign s, and its size the pattern a. Small numbers, zeros among them, are their own atan; past the infinity lie the
-- NaNs.
abbrev pub atan_at : Float → Bool → ℕ → Float
atan_at x s a =
    cond (nat_lt a tiny) x
    (cond (nat_lt a one) (below_one s a)
    (cond (a == one) (at_one s)
    (cond (nat_lt a far) (above_one s a)
    (cond (nat_le a infinity) (at_infinity s)
    nan))))

unfoldable pub atan : Float → Float
atan x = let b = to_bits binary64 x in atan_at x (negative b) (size_bits b)
