-- At a fraction p / q, `rounded` is the library's `round`, by which every operator on f64 is defined: one notion of rounding
-- serves both.
-- Assumes nothing.
use Prim.Native.Nat.{ℕ, zero, suc, ◌+◌, ◌-◌, ◌*◌, ◌/◌, ◌%◌, ◌^◌, ◌≤◌, ◌<◌, compare, Ordering}
use Rattle.std.specs.Prelude.{◌≡◌, refl, true, false, not, ◌⊎◌, [], ◌∷◌, T, eqb, Float}
use Rattle.std.proofs.Common.{sym, ap, ◌∙◌, true≢false, le_of_eq, le_of_lt, le_trans, le_antisymm, mul-le-mul_right, lt_of_mul-lt-mul_right, mul-div_cancel, mul-pos, mod-lt, div-add-mod', le-div_iff_mul-le, eq-zero-or-pos, zero-add, mul-one, le-ltb, leb→le, pow_pos, pow-add}
use Rattle.std.proofs.Math.Path.{subst}
use Rattle.std.proofs.Math.Logic.{inl, inr}
use Rattle.std.proofs.Math.Nat.{div-div-eq-div-mul}
use native.Mathlib.Omega.{arith}
use Rattle.std.specs.Float.{nan, inf, fin, binary64}
use Rattle.std.specs.Float.Ieee.{up, down, size, nearest, units, round, fits, to_bits, of_bits}
use Rattle.std.specs.Float.Ieee.Digits.{size_reaches}
use Rattle.std.specs.Float.Ieee.Nearest.{nearest-ge}
use Rattle.std.specs.Float.Ieee.Fits.{down_pos, nearest-le, kept-lt, round_is, round-fits, eq→eqb}
use Rattle.std.specs.Float.Ieee.Bits.{of_bits-to_bits, of_bits-fits}
use Rattle.std.specs.Float.Ieee.Exact.{HasValue, units_val}
use Rattle.algebra.specs.Ring.{con, nxt, ◌:+◌, ◌:*◌, ◌≈◌, ◌⊩◌, ◌times◌≼◌}
use Rattle.algebra.proofs.Ring.{ring, below}
use Rattle.rounding.specs.Cut.{Cut, infinity, value, nearer, passed, reached, rounded}
use Rattle.algebra.specs.Order.{lt_or_le, Compared, compared, lt_compare, eq_compare, gt_compare}
use Rattle.rounding.specs.Laws.{Number, middle}

-- a / b compared with p / q
abbrev pub fraction : ℕ → ℕ → Cut
fraction p q a b = compare (a * q) (p * b)
