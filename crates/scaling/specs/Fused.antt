-- The rule of `Two` for the fused multiply-add. The exact product of two floats is a whole number of units as long as their last
-- places reach so far, which a test on the grains says; then the step is a sum like any other, of any signs, and scales without a
-- bound from below.
use Rattle.std.specs.Prelude.{◌≡◌, refl, ℕ, ◌+◌, ◌-◌, ◌*◌, ◌^◌, ◌≤◌, ◌<◌, min, Bool, true, false, ◌&&◌, cond, [], ◌∷◌, T, ltb, leb, eqb, Float}
use Rattle.std.proofs.Common.{sym, ap, ap₂, ◌∙◌, subst, inl, inr, le_trans, le_of_eq, mul-one, mul-pos, mul-le-mul, mul-le-mul_right, add-le-add, add-mul, zero-lt-suc, le_refl, arith, leb→le, eqb→eq, pow-add, pow_pos}
use Rattle.std.proofs.Math.Nat.{eq_of_mul-eq-mul_right}
use Rattle.std.specs.Bool.{beq}
use Rattle.std.specs.Float.{binary64}
use Rattle.std.specs.Float.Ieee.{unlike, round}
use Rattle.std.specs.Float.Ieee.Fits.{and_l, and_r}
use Rattle.std.specs.Float.Ieee.Scale.{overflow}
use Rattle.algebra.specs.Ring.{◌:*◌, ◌≈◌, ◌⊩◌, ◌times◌≼◌}
use Rattle.algebra.proofs.Ring.{ring}
use Rattle.fused.specs.Fused.{fused}
use Rattle.fused.proofs.Laws.{fused_sum}
use Rattle.scaling.specs.Near.{near, near_mono, near_whole}
use Rattle.scaling.specs.Cross.{add_n, add_s, add_n_cross, add_s_cross}
use Rattle.scaling.specs.Units.{Is, round_units, sum_is}
use Rattle.scaling.specs.Kind.{Kind, In}
use Rattle.scaling.specs.Last.{Multiple}
use Rattle.scaling.specs.Two.{Two}

-- ---- the exact product
pub record Whole (g m n : ℕ) : Type 0 where
  pub p : ℕ
  pub is : m * n ≡ p * 2 ^ 1074
  pub grain : Multiple g p

-- ---- the kind: zero, or no less than the power of two that divides both
unfoldable pub fused_k : Kind → Kind → Kind → Kind
unfolding near
fused_k A B C = record {
  any = true;
  zer = true;
  lo = 2 ^ min (A.g + B.g - 1074) C.g;
  hi = near binary64 (A.hi * B.hi + C.hi * 2 ^ 1074) (2 ^ 1074);
  g = min (A.g + B.g - 1074) C.g;
  u = C.u;
  d = C.d;
}

-- the product has the addend's weight, nothing overflows, and the product is whole
unfoldable pub fused_ok : Kind → Kind → Kind → Bool
unfolding fused_k
fused_ok A B C = (eqb (A.u + B.u) C.u && eqb (A.d + B.d) C.d) && ltb (fused_k A B C).hi (overflow binary64) && leb 1074
    (A.g + B.g)
