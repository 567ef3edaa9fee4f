-- A table that equals the list of the coefficients, which is one computed test, has each of them at its place. Assumes nothing.
use Prim.Native.Nat.{ℕ, zero, suc, ◌+◌, ◌<◌}
use mathlib.Core.Path.{◌≡◌, ap, ◌∙◌}
use mathlib.Core.List.{List, [], ◌∷◌}
use native.Mathlib.Nat.{zero-add}
use native.Mathlib.Omega.{arith}
use lib.ListN.{get_or}
use lib.Ieee.{Float, nan}
use Rattle.polynomial.specs.Polynomial.{coefficient}

-- n coefficients, from the i-th on
unfoldable pub from : ℕ → ℕ → List Float
from zero i = []
from (suc n) i = coefficient i ∷ from n (suc i)

from_at : (n i k : ℕ) → k < n → get_or (from n i) k nan ≡ coefficient (i + k)
unfolding from
from_at zero i k h = absurd (omega arith)
from_at (suc n) i zero h = let e : i ≡ i + 0 = omega arith in ap coefficient e
from_at (suc n) i (suc k) h = let e : suc i + k ≡ i + suc k = omega arith in from_at n (suc i) k (omega arith) ∙ ap coefficient e

pub entry : (table : List Float) → table ≡ from 9 0 → (k : ℕ) → k < 9 → get_or table k nan ≡ coefficient k
entry table e k h = ap (λ (xs : List Float). get_or xs k nan) e ∙ from_at 9 0 k h ∙ ap coefficient (zero-add k)
