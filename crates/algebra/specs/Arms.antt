-- The last arm of a match on a number, `_`, is met by what no arm before it names: 0, 1, .., n - 1. Assumes nothing.
use Rattle.std.specs.Prelude.{ℕ, zero, suc, ◌≤◌, ◌≡◌}
use Rattle.std.proofs.Common.{arith}

-- what the arm knows, as the check hands it over
abbrev pub None : ℕ → ℕ → Type 0
None i zero = Unit
None i (suc n) = None i n × (i ≡ n → ⊥)

pub past : (i n : ℕ) → None i n → n ≤ i
past i zero h = omega arith
past i (suc n) h = let l = past i n h.0 in let d : i ≡ n → ⊥ = h.1 in omega arith
