-- What the patterns of f64s, as words, tell. Assumes nothing.
use Rattle.std.proofs.Common.{◌≡◌, ℕ, ◌+◌, ◌-◌, ◌*◌, ◌%◌, ◌^◌, ◌<◌, ◌≤◌, not, T, arith}
use lib.Ieee.{binary64, nan_bits}
use Rattle.rounding.specs.Cut.{infinity}
use Rattle.binary64.specs.Tests.{bits_number}

-- a size up to infinity's is no NaN's with either sign
no_nan : (n s : ℕ) → n ≤ infinity → s ≤ 1 → (n + s * 2 ^ 63) % 2 ^ 63 ≤ infinity
no_nan n s h l = omega arith

pub signed_number : (n s : ℕ) → n ≤ infinity → s ≤ 1 → T (not (nan_bits binary64 (n + s * 2 ^ 63)))
signed_number n s h l = bits_number _ (no_nan n s h l)

-- one comparison tells both ends, since a difference below zero is a large word
pub both_ends : {low high a r : ℕ} → high < 2 ^ 64 → (r + low) % 2 ^ 64 ≡ a → r < high - low → (low ≤ a) × (a < high)
both_ends f e h = (omega arith, omega arith)
