-- What the functions of t_series.rt and logarithm.rt may ask of each other. Definitions only.
use Rattle.std.specs.Prelude.{◌≡◌, ℕ, ◌+◌, ◌*◌, ◌/◌, ◌^◌, ◌<◌, ◌≤◌}
use Rattle.enclosure.specs.Pieces.{odd, pieces, piece}
use Rattle.enclosure.specs.Rules.{seed_square, T-answer}

-- a seed: its square lies in a piece that the table has
pub record Seeded (j sg : ℕ) : Type 0 where
  pub few : j < 64
  pub fits : sg < 2 ^ 62
  pub inside : piece (seed_square j sg) < pieces odd

-- an exponent and the digits of a number from 2 up, or below 1/2
pub record Exponent (e m : ℕ) : Type 0 where
  pub least : 1 ≤ e
  pub most : e < 2 ^ 11
  pub low : 2 ^ 52 ≤ m
  pub high : m < 2 ^ 53

-- an exponent, and a quotient that makes a seed
pub record Multiple (e p d : ℕ) : Type 0 where
  pub least : 1 ≤ e
  pub most : e < 2 ^ 11
  pub divides : (p ≤ d) × (2 ^ 61 ≤ d) × (d < 2 ^ 63)
  pub seeded : Seeded 1 (p * 2 ^ 62 / d)
  pub fits : T-answer 1 (p * 2 ^ 62 / d) < 2 ^ 63

-- the digits of a number m * 2 ^ -(53 + j) up to 3/4
pub record Small (j m : ℕ) : Type 0 where
  pub most : j ≤ 53
  pub low : 2 ^ 52 ≤ m
  pub high : m < 2 ^ 53
  pub small : 4 * m ≤ 3 * 2 ^ (53 + j)

-- the digits of such a number up to 1, and up to 3/4 where the sign s is 1
pub record Close (s j m : ℕ) : Type 0 where
  pub most : j ≤ 53
  pub low : 2 ^ 52 ≤ m
  pub high : m < 2 ^ 53
  pub small : s ≡ 1 → 4 * m ≤ 3 * 2 ^ (53 + j)

-- n parts of 2 ^ -53 up to 1, and up to 1/2 where the sign s is 1
pub record Distance (s n : ℕ) : Type 0 where
  pub least : 1 ≤ n
  pub most : n < 2 ^ 53
  pub half : s ≡ 1 → n ≤ 2 ^ 52
