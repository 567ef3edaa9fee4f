-- Two rules more. A difference whose sign a test has shown is above zero. And a function of a float that is the same in both runs
-- gives the same in both: of it only bounds are asked.
use Rattle.std.specs.Prelude.{◌≡◌, refl, ◌⊎◌, ℕ, ◌-◌, ◌*◌, ◌^◌, ◌<◌, Bool, true, false, not, ◌&&◌, ◌||◌, cond, T, ltb, Float}
use Rattle.std.proofs.Common.{sym, ap, ap₂, ◌∙◌, subst, inl, inr, le_trans, le_of_eq, lt_irrefl, lt_of_lt_of_le, zero-lt-suc, arith, ltb→lt}
use Rattle.std.proofs.Math.Pow.{pow-lt}
use Rattle.std.specs.Float.{nan, Format}
use Rattle.std.specs.Float.Ieee.{sub, lt, below}
use Rattle.std.specs.Float.Ieee.Fits.{and_l, and_r}
use Rattle.std.specs.Float.Ieee.Scale.{overflow}
use Rattle.scaling.specs.Near.{near, digits, near_exact}
use Rattle.scaling.specs.Cross.{add_n, add_s}
use Rattle.scaling.specs.Units.{Is, lt_units}
use Rattle.scaling.specs.Kind.{Kind, In, level?, last, sum_k, sum_ok, neg_k}
use Rattle.scaling.specs.Last.{Multiple}
use Rattle.scaling.specs.Two.{Two}

-- ---- y - x, where x is below y and neither is negative
unfoldable pub gap_k : Format → Kind → Kind → Kind
unfolding sum_k
gap_k f B A = let K = sum_k f B
    (neg_k A) in record { any = false; zer = false; lo = K.lo; hi = K.hi; g = K.g; u = K.u; d = K.d }

unfoldable pub gap_ok : Format → Kind → Kind → Bool
unfolding sum_ok
gap_ok f B A = sum_ok f B (neg_k A) && not (A.any || B.any)

-- ---- a function g that has, at a float of the kind A, a value of the kind B or no number
pub record Value (f : Format) (B : Kind) (x : Float) : Type 0 where
  pub s : Bool
  pub n : ℕ
  pub is : Is f x s n
  pub within : In B s n

abbrev pub Leaf : Format → (Float → Float) → Kind → Kind → Type 0
Leaf f g A B = (x : Float) → Value f A x → (g x ≡ nan) ⊎ Value f B (g x)
