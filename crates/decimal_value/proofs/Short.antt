-- What the tests on d and t say of `short`. Assumes nothing.
use Prim.Native.Nat.{ℕ, ◌^◌, ◌≤◌, ◌<◌}
use mathlib.Core.Path.{◌≡◌}
use mathlib.Core.Bool.{true, false}
use borrow.Author.Tests.{le-leb, lt-leb}
use Rattle.decimal_value.specs.Short.{short}

pub too_long : (d t : ℕ) → 2 ^ 53 < d → false ≡ short d t
unfolding short
too_long d t h = rw (lt-leb d (2 ^ 53) h)

pub too_low : (d t : ℕ) → d ≤ 2 ^ 53 → t < 1178 → false ≡ short d t
unfolding short
too_low d t h l = rw (le-leb d (2 ^ 53) h, lt-leb 1178 t l)

pub too_high : (d t : ℕ) → d ≤ 2 ^ 53 → 1178 ≤ t → 1222 < t → false ≡ short d t
unfolding short
too_high d t h l u = rw (le-leb d (2 ^ 53) h, le-leb 1178 t l, lt-leb t 1222 u)

pub is_short : (d t : ℕ) → d ≤ 2 ^ 53 → 1178 ≤ t → t ≤ 1222 → true ≡ short d t
unfolding short
is_short d t h l u = rw (le-leb d (2 ^ 53) h, le-leb 1178 t l, le-leb t 1222 u)
