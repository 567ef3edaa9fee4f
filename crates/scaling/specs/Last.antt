-- A float of lo units or more is a multiple of the last place that lo has. A sum of two multiples of a power of two is one too,
-- rounded or not, so it is zero or no less.
use Rattle.std.specs.Prelude.{◌≡◌, ◌⊎◌, ℕ, zero, suc, ◌+◌, ◌-◌, ◌*◌, ◌%◌, ◌^◌, ◌≤◌, ◌<◌, Bool, ◌&&◌, [], ◌∷◌, pos, negsuc, ltb, leb, eqb, Float}
use Rattle.std.proofs.Common.{sym, ◌∙◌, subst, inl, inr, lt_of_mul-lt-mul_right, mul-lt-mul_of_pos_right, lt_of_lt_of_le, mul_comm, le_trans, le_of_eq, lt_of_le_of_lt, not-le_of_lt, eq-zero-or-pos, zero-mul, one-mul, mul-one, mul_assoc, mul-le-mul_right, zero-lt-suc, arith, ltb→lt, leb→le, pow-add, pow_pos, shl_lt}
use Rattle.std.proofs.Math.Path.{ap}
use Rattle.std.proofs.Math.Nat.{eq_of_mul-eq-mul_right}
use Rattle.std.proofs.Math.Pow.{pow-lt}
use Rattle.std.specs.Float.{nan, inf, fin, Format}
use Rattle.std.specs.Float.Ieee.{prec, emax, low, up, down, size, fits}
use Rattle.std.specs.Float.Ieee.Digits.{size-lt, size-le, back}
use Rattle.std.specs.Float.Ieee.Fits.{and_r, down_pos}
use Rattle.std.specs.Float.Ieee.Scale.{overflow}
use Rattle.algebra.specs.Ring.{con, ◌:*◌, ◌≈◌, ◌⊩◌, ◌times◌≼◌}
use Rattle.algebra.proofs.Ring.{ring}
use Rattle.scaling.specs.Near.{near, digits, near_exact, near_zero_lem, near_whole, either}
use Rattle.scaling.specs.Cross.{add_n, add_n_cross}
use Rattle.scaling.specs.Units.{Is}
use Rattle.scaling.specs.Kind.{Kind, In, last}

-- ---- the digits of a float: n units are M * 2 ^ j, with an M of no more digits than the format keeps
pub record Digits (f : Format) (n : ℕ) : Type 0 where
  pub M : ℕ
  pub j : ℕ
  pub is : n ≡ M * 2 ^ j
  pub small : M < 2 ^ prec f

pub record Multiple (g n : ℕ) : Type 0 where
  pub c : ℕ
  pub is : n ≡ c * 2 ^ g
