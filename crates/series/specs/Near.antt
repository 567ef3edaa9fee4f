-- What it is for an f64 to lie within one last place of every enclosure (document 01, "What the leaves mean"). Definitions only.
-- A finite f64 is named by its sign, 0 or 1, and the pattern a of its size, which is below the infinity's.
use Rattle.std.specs.Prelude.{◌≡◌, ℕ, ◌+◌, ◌-◌, ◌*◌, ◌/◌, ◌^◌, ◌<◌, from_bits, Float}
use Rattle.std.specs.Float.{binary64}
use Rattle.rounding.specs.Cut.{infinity, value}
use Rattle.enclosure.specs.Quotient.{Quotient, parts}
use Rattle.enclosure.specs.Enclosure.{Within}

abbrev pub signed : ℕ → ℕ → Float
signed s a = from_bits binary64 (a + s * 2 ^ 63)

-- its size
abbrev pub number : ℕ → Quotient
number a = parts 1074 (value a)

-- its last place, document 01's unit: 2 ^ -52 times the largest power of two not above its size, and at least 2 ^ -1074
abbrev pub last_place : ℕ → Quotient
last_place a = parts 1074 (2 ^ (a / 2 ^ 52 - 1))

-- y has the sign s, and its size lies within one last place of every enclosure
pub record Near (s : ℕ) (y : Float) (lower upper : ℕ → Quotient) : Type 0 where
  pub bits : ℕ
  pub finite : bits < infinity
  pub is : y ≡ signed s bits
  pub within : Within lower upper (number bits) (last_place bits) (last_place bits)
