-- Which f64s an operation can give, from which f64s it is given: rounding keeps the order, so bounds go through each step.
-- A bound is a bit pattern, and each rule asks for two comparisons of whole numbers that compute. Assumes nothing.
use Prim.Native.Nat.{ℕ, zero, suc, ◌+◌, ◌*◌, ◌^◌, ◌≤◌, ◌<◌, compare, Ordering}
use Rattle.std.specs.Prelude.{◌≡◌, refl, Bool, ◌&&◌, [], ◌∷◌, T, leb, ltb, ℤ, Float}
use Rattle.std.proofs.Common.{sym, ap, ◌∙◌, inl, inr, le_refl, le_of_eq, le_of_lt, le_antisymm, mul_assoc, le_trans, lt_of_lt_of_le, lt_of_le_of_lt, lt_irrefl, mul-pos, mul-le-mul, add-le-add, mul-le-mul_right, mul-le-mul_left, zero-lt-suc, leb→le, le→leb, ltb→lt, pow_pos}
use Rattle.std.proofs.Math.Path.{subst}
use Rattle.std.proofs.Math.Bool.{false}
use Rattle.std.proofs.Math.Nat.{eq_of_mul-eq-mul_right}
use Rattle.std.proofs.Math.Dec.{is_le, eqb-suc-zero}
use Rattle.std.specs.Float.{nan, inf, fin}
use Rattle.std.specs.Float.Ieee.{binary64, up, down, round, sum, add, mul, div, of_bits}
use Rattle.std.specs.Float.Ieee.Fits.{up_pos, down_pos, and_l, and_r}
use Rattle.std.specs.Float.Ieee.Exact.{HasValue}
use Rattle.std.specs.Float.Ieee.Scale.{round_same}
use Rattle.algebra.specs.Ring.{con, nxt, ◌:+◌, ◌:*◌, ◌≈◌, ◌⊩◌, ◌times◌≼◌}
use Rattle.algebra.proofs.Ring.{ring, below}
use Rattle.algebra.specs.Order.{lt_or_le, Compared, compared}
use Rattle.rounding.specs.Cut.{Cut, value, infinity, rounded}
use Rattle.rounding.proofs.Value.{value_lt, value_is}
use Rattle.rounding.specs.Laws.{Number, Nearest, middle}
use Rattle.rounding.proofs.Laws.{rounded_nearest}
use Rattle.rounding.specs.Fraction.{fraction}
use Rattle.rounding.proofs.Fraction.{fraction_number, rounded_fraction}
use Rattle.binary64.specs.Operators.{◌⊕◌, ◌⊗◌, ◌⊘◌}
use Rattle.root.specs.Root.{root_of, root}
use Rattle.root.proofs.Laws.{root_number}

-- patterns from lo to hi, of finite f64s above zero
abbrev pub solid : ℕ → ℕ → Bool
solid lo hi = ltb 0 lo && (leb lo hi && ltb hi infinity)

pub record Between (lo hi : ℕ) (x : Float) : Type 0 where
  pub ok : T (solid lo hi)
  pub n : ℕ
  pub is : x ≡ of_bits binary64 n
  pub low : lo ≤ n
  pub high : n ≤ hi

-- ---- such an f64 as data, with its units of 2 ^ -1074
pub record Form (x : Float) (u : ℕ) : Type 0 where
  pub m : ℕ
  pub e : ℤ
  pub is : x ≡ fin false (suc m) e
  pub units : suc m * up e * 2 ^ 1074 ≡ u * down e
