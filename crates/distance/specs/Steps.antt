-- Steps between neighbouring f64 values (document 02, 2026-11). Definitions only.
use Rattle.std.specs.Prelude.{ℕ, ◌+◌, ◌-◌, ◌%◌, ◌^◌, Bool, cond, leb, ltb}
use Rattle.rounding.specs.Cut.{infinity}

-- the pattern without its sign
abbrev pub size_of : ℕ → ℕ
size_of b = b % 2 ^ 63

-- the step number of a pattern, counted from 2 ^ 63, where the zeros stand: "zeros of both signs being one"
unfoldable pub step_of : ℕ → ℕ
step_of b = cond (leb (2 ^ 63) b) (2 ^ 63 - size_of b) (2 ^ 63 + size_of b)

-- the difference of two numbers, as a size
unfoldable pub gap : ℕ → ℕ → ℕ
gap s t = (s - t) + (t - s)

-- "in steps between neighbouring f64 values": how many lie between two patterns
unfoldable pub apart_of : ℕ → ℕ → ℕ
apart_of a b = gap (step_of a) (step_of b)

-- neither a NaN's pattern nor an infinity's: "a finite value"
unfoldable pub finite_pattern : ℕ → Bool
finite_pattern b = ltb (size_of b) infinity
