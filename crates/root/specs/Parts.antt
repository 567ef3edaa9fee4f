-- What the functions below `sqrt` say to each other. Definitions only.
use Rattle.std.specs.Prelude.{◌≡◌, ℕ, ◌+◌, ◌*◌, ◌^◌, ◌<◌, ◌≤◌}
use Rattle.rounding.specs.Cut.{infinity, value}

-- 4 ^ k, shut: antt's `omega` stops at numbers as large as 4 ^ 511
unfoldable pub four : ℕ → ℕ
four k = 2 ^ (k + k)

-- The pattern b is cut into a number n of 53 or 54 digits and an even power of two: its value is n * 4 ^ (y - 511) units.
-- (n is even where it has 54 digits, so that it is not 2 ^ 54 - 1, whose root would be rounded up to one digit more.)
pub record Scaled (b n y : ℕ) : Type 0 where
  pub same : value b * four 511 ≡ n * four y
  pub low : 2 ^ 52 ≤ n
  pub high : n + 2 ≤ 2 ^ 54
  pub small : b < infinity → y ≤ 1534

-- c is the root of n * 2 ^ 52, rounded: c * c - c < n * 2 ^ 52 ≤ c * c + c. There is no tie, since (c + 1 / 2) ^ 2 is no whole
-- number.
pub record RootDigits (n c : ℕ) : Type 0 where
  pub above : c * c < n * 2 ^ 52 + c
  pub within : n * 2 ^ 52 ≤ c * c + c

-- The same of the digits at the left end of a word: C is c * 2 ^ 11, and T is n * 2 ^ 10.
pub record Held (T C : ℕ) : Type 0 where
  pub above : C * C < T * 2 ^ 64 + C * 2 ^ 11
  pub within : T * 2 ^ 64 ≤ C * C + C * 2 ^ 11
