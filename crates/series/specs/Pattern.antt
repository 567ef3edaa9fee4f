-- An f64 by its pattern b, of which the highest bit is the sign and the rest, a, is the pattern of its size. Definitions only.
-- Where the field of a is 1 at least and below 2047, the size is digits a * 2 ^ (field a - 1075).
use Rattle.std.specs.Prelude.{ℕ, ◌+◌, ◌/◌, ◌%◌, ◌^◌, Bool, ◌==◌}

abbrev pub negative : ℕ → Bool
negative b = b / 2 ^ 63 == 1

abbrev pub size_bits : ℕ → ℕ
size_bits b = b % 2 ^ 63

abbrev pub field : ℕ → ℕ
field a = a / 2 ^ 52

abbrev pub digits : ℕ → ℕ
digits a = a % 2 ^ 52 + 2 ^ 52
