-- What `rounded` answers: the pattern whose value is nearest to v, the even one of two that are equally near; and it is the only
-- one.
-- Assumes nothing.
use Prim.Native.Nat.{ℕ, zero, suc, ◌+◌, ◌*◌, ◌%◌, ◌^◌, ◌≤◌, ◌<◌, Ordering}
use Rattle.std.specs.Prelude.{◌≡◌, Bool, true, false, not, cond, ltb, eqb}
use Rattle.std.proofs.Math.Path.{refl, ap}
use Rattle.std.proofs.Common.{sym, subst, inl, inr, add_comm, le_antisymm, mul-lt-mul_of_pos_right, ltb→lt, lt→ltb, eqb→eq, T_not, pow_pos}
use Rattle.std.proofs.Math.Nat.{pow-succ'}
use native.Mathlib.Omega.{arith}
use Rattle.std.proofs.Math.Dec.{T, is_le, not_T}
use Rattle.std.specs.Float.Ieee.{binary64, of_bits}
use Rattle.std.specs.Float.Ieee.Fits.{and_i, and_l, and_r, eq→eqb}
use Rattle.algebra.specs.Order.{lt_or_le}
use Rattle.rounding.specs.Cut.{Cut, value, infinity, nearer, passed, reached, last, rounded}

-- the comparisons are those with one number: what is below a fraction that is not above v is below v
pub record Number (v : Cut) : Type 0 where
  pub below : (a b c d : ℕ) → 0 < b → 0 < d → a * d < c * b → T (is_le (v c d)) → v a b ≡ Ordering.lt

-- the middle between the values of two patterns, which is a number of half units
abbrev pub middle : ℕ → ℕ → ℕ
middle i j = value i + value j

-- The pattern n is nearest to v, of all up to the infinity's: v is not below the middle between n and a lower one, and not above
-- that between n and a higher one.
-- Where it is at such a middle, n is even.
pub record Nearest (v : Cut) (n : ℕ) : Type 0 where
  pub held : n ≤ infinity
  pub lower : (j : ℕ) → j < n → T (is_le (v (middle j n) (2 ^ 1075)))
  pub higher : (j : ℕ) → n < j → j ≤ infinity → v (middle n j) (2 ^ 1075) ≡ Ordering.lt → ⊥
  pub even : (j : ℕ) → j ≤ infinity → (j ≡ n → ⊥) → v (middle j n) (2 ^ 1075) ≡ Ordering.eq → n % 2 ≡ 0

-- the pattern of the answer
abbrev pub found : Cut → ℕ
found v = last v 63 0
