-- What the functions of quotient.rt say to each other. Definitions only.
use Rattle.std.specs.Prelude.{◌≡◌, ℕ, ◌+◌, ◌*◌, ◌<◌, ◌≤◌}

-- n is q times d and r more
pub record Divided (n d q r : ℕ) : Type 0 where
  pub whole : q * d + r ≡ n
  pub small : r < d

-- the same number by another quotient and rest, and the rest one d shorter, if it was longer than d
pub record Nearer (d q r q' r' : ℕ) : Type 0 where
  pub same : q' * d + r' ≡ q * d + r
  pub more : q' ≤ q + 1
  pub two : r < 3 * d → r' < 2 * d
  pub one : r < 2 * d → r' < d
