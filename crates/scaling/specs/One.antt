-- The rules of `Two` for one float: a wider kind, the negative, the size, a constant; and the larger of two.
use Rattle.std.specs.Prelude.{◌≡◌, refl, ℕ, suc, ◌+◌, ◌*◌, ◌/◌, ◌^◌, ◌≤◌, ◌<◌, min, max, Bool, true, false, not, ◌&&◌, ◌||◌, cond, [], ◌∷◌, ℤ, T, ltb, leb, eqb, Float}
use Rattle.std.proofs.Common.{sym, ap, ◌∙◌, subst, subst₂, inl, inr, le_refl, le_trans, le_of_lt, mul-le-mul_right, le_of_mul-le-mul_right, arith, ltb→lt, nltb→le, leb→le, eqb→eq, pow_pos}
use Rattle.std.proofs.Math.Nat.{eq_of_mul-eq-mul_right}
use Rattle.std.specs.Float.{nan, inf, fin, Format}
use Rattle.std.specs.Float.Ieee.{low, up, down, neg, sub, lt, is_nan, fits, of_bits}
use Rattle.std.specs.Float.Ieee.Fits.{and_l, and_r}
use Rattle.algebra.specs.Ring.{◌:*◌, ◌≈◌, ◌⊩◌, ◌times◌≼◌}
use Rattle.algebra.proofs.Ring.{ring}
use Rattle.binary64.specs.Leaves.{absolute, maximum}
use Rattle.scaling.specs.Near.{either}
use Rattle.scaling.specs.Units.{Is, neg_units, lt_units}
use Rattle.scaling.specs.Kind.{Kind, In, level?, sum_k, sum_ok, allows, within, neg_k, abs_k}
use Rattle.scaling.specs.Kind.{max_k, max_ok, same_k}
use Rattle.scaling.specs.Last.{Multiple}
use Rattle.scaling.specs.Two.{Two}

-- ---- a bound from elsewhere
unfoldable pub clip_k : ℕ → Kind → Kind
clip_k h A = record { any = A.any; zer = A.zer; lo = A.lo; hi = h; g = A.g; u = A.u; d = A.d }

-- one that is written out, with its units
abbrev pub lit_n : Format → Float → ℕ
lit_n f nan = 0
lit_n f (inf s) = 0
lit_n f (fin s m e) = m * up e * 2 ^ low f / down e

abbrev pub sign : Float → Bool
sign nan = false
sign (inf s) = s
sign (fin s m e) = s

unfoldable pub lit_ok : Format → Float → Bool
unfolding fits of_bits
lit_ok f nan = false
lit_ok f (inf s) = false
lit_ok f (fin s m e) = fits f (fin s m e) && eqb (m * up e * 2 ^ low f) (m * up e * 2 ^ low f / down e * down e)
