-- Why a series is taken only at small arguments: the bound q times the power w stays 64 times ahead of a first difference D, so q
-- below the mean makes D / (mean * w) at most 1/64. All of it is about units: l is the number of units in 1.
use Rattle.std.specs.Prelude.{◌≡◌, ℕ, ◌+◌, ◌-◌, ◌*◌, ◌^◌, ◌≤◌, ◌<◌, [], ◌∷◌}
use Rattle.std.proofs.Common.{sym, ap, ◌∙◌, inl, inr, le_trans, le_of_eq, le_of_lt, lt_of_lt_of_le, lt_of_le_of_lt, mul-one, mul_assoc, mul-pos, mul-lt-mul_of_pos_right, not-le_of_lt, zero-lt-suc, arith, pow-add, pow_pos, pow_mono}
use Rattle.std.proofs.Math.Pow.{pow-lt}
use Rattle.std.specs.Float.{Format}
use Rattle.std.specs.Float.Ieee.{prec, low}
use Rattle.std.specs.Float.Ieee.Digits.{back}
use Rattle.algebra.specs.Ring.{con, ◌:*◌, ◌≈◌, ◌⊩◌, ◌times◌≼◌}
use Rattle.algebra.proofs.Ring.{ring, below}
use Rattle.scaling.specs.Near.{near, digits, near_mono, near_same, near_exact, near_whole, either}
use Rattle.scaling.specs.Last.{Digits}

-- ---- q times w is ahead of D
abbrev pub Ahead : Format → ℕ → ℕ → ℕ → Type 0
Ahead f D Q W = 64 * D * 2 ^ low f ≤ Q * W
