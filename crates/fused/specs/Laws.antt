-- What `fused` is at finite numbers: `round` of the exact fraction a * b + c, with IEEE 754's sign; the f64 nearest to it, and no
-- other.
-- Assumes nothing.
use Rattle.std.specs.Prelude.{◌≡◌, ℕ, suc, ◌+◌, ◌-◌, ◌*◌, ◌^◌, ◌<◌, ◌≤◌, Bool, true, false, cond, ◌&&◌, [], ◌∷◌, ℤ, pos, negsuc, ◌+ℤ◌, from_bits, nat_lt, refl, Float}
use Rattle.std.proofs.Common.{sym, ap, ap₂, ◌∙◌, mul-pos, mul-one, one-mul, arith, ltb-true, ltb-false, pow-add}
use Rattle.std.specs.Bool.{beq}
use Rattle.std.proofs.Math.Nat.{eq_of_mul-eq-mul_right}
use Rattle.std.proofs.Math.IntN.{sub_ℕ}
use Rattle.std.specs.Float.{nan, inf, fin, binary64}
use Rattle.std.specs.Float.Ieee.{unlike, up, down, round, sum, add, neg}
use Rattle.std.specs.Float.Ieee.Fits.{down_pos}
use Rattle.std.specs.Float.Ieee.Exact.{HasValue}
use Rattle.algebra.specs.Ring.{◌:*◌, ◌≈◌, ◌⊩◌, ◌times◌≼◌}
use Rattle.algebra.proofs.Ring.{ring}
use Rattle.rounding.specs.Laws.{Nearest}
use Rattle.rounding.proofs.Laws.{rounded_nearest, nearest_rounded}
use Rattle.rounding.specs.Fraction.{fraction}
use Rattle.rounding.proofs.Fraction.{fraction_number, rounded_fraction}
use Rattle.fused.specs.Fused.{times, fused}
use Rattle.fused.specs.Parts.{apart}
use Rattle.fused.specs.Signs.{sum_same}
use Rattle.nearest.specs.Signed.{round_sign}

-- ---- THE LAWS: three finite numbers, ±A / G, ±B / H and ±C / K
-- the sign of a sum of two sizes x and y with the signs s and t: the larger one's, and of an exact zero that of both, or +
abbrev pub sign : Bool → Bool → ℕ → ℕ → Bool
sign s t x y = cond (beq s t) s (cond (nat_lt x y) t (s && nat_lt y x))

-- the f64 of the pattern n, with the sign s
abbrev pub signed : Bool → ℕ → Float
signed s n = cond s (neg (from_bits binary64 n)) (from_bits binary64 n)
