-- A partial sum of T or of Euler's series is its first factor times an exact polynomial in s^2 or in t^2 / (1 + t^2); and a
-- late term is small. Assumes nothing.
use Prim.Native.Nat.{ℕ, zero, suc, ◌+◌, ◌*◌, ◌^◌, ◌≤◌}
use Rattle.std.specs.Prelude.{◌≡◌, [], ◌∷◌}
use Rattle.std.proofs.Common.{sym, ◌∙◌, ap, le_of_eq, le_of_mul-le-mul_right}
use Rattle.std.proofs.Math.Path.{subst}
use Rattle.std.proofs.Math.Nat.{pow-succ', pow-zero}
use native.Mathlib.Omega.{arith}
use Rattle.algebra.specs.Ring.{con, ◌:+◌, ◌:*◌, ◌≈◌, ◌⊩◌, ◌times◌≼◌, Law, Order}
use Rattle.algebra.proofs.Ring.{by_ring, by_below}
use Rattle.enclosure.specs.Quotient.{Quotient, ◌≼◌, whole, over, ◌⊞◌, ◌⊠◌}
use Rattle.enclosure.specs.Order.{≼_refl, ≼_trans, ⊞-mono, ⊠-mono}
use Rattle.enclosure.specs.Enclosure.{sum, odd_power, T-term, euler_start, euler_ratio, euler_term}
use Rattle.enclosure.specs.Nested.{Falls}
use Rattle.enclosure.specs.Pieces.{Series, euler, odd}

-- ---- one number
infix 50 ◌≃◌
-- c_n of a series
unfoldable pub coefficient : Series → ℕ → Quotient
coefficient euler zero = whole 1
coefficient euler (suc k) = coefficient euler k ⊠ over (2 * suc k) (2 * suc k)
coefficient odd k = over 1 (2 * k)

-- c_i + c_(i+1) z + .. + c_(i+k-1) z ^ (k-1)
unfoldable pub exact : (ℕ → Quotient) → Quotient → ℕ → ℕ → Quotient
exact c z zero i = whole 0
exact c z (suc k) i = c i ⊞ z ⊠ exact c z k (suc i)

abbrev pub ◌≃◌ : Quotient → Quotient → Type 0
x ≃ y = (x ≼ y) × (y ≼ x)

-- ---- z ^ k
unfoldable pub power : Quotient → ℕ → Quotient
power z zero = whole 1
power z (suc k) = z ⊠ power z k

-- k terms are enough for the ratio z where z ^ k ≤ 2 ^ -62; and so for any ratio below it
abbrev pub Enough : Quotient → ℕ → Type 0
Enough z k = (power z k).num * 2 ^ 62 ≤ (power z k).den
