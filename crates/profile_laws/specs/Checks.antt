-- Arguments that the single tests do not tell apart are checked alike by the profile's entries: by one, by two, by three, and
-- with RJ's p. So are an argument and what "-0 becomes +0" makes of it. Assumes nothing.
use Rattle.std.specs.Prelude.{◌≡◌, ◌||◌, Float}
use Rattle.std.proofs.Common.{sym, ◌∙◌}
use Rattle.std.proofs.Math.Path.{ap₂}
use Rattle.std.proofs.Math.Bool.{◌&&◌}
use Rattle.std.specs.Float.Ieee.{is_nan, lt, le, eq}
use Rattle.binary64.specs.Leaves.{minimum}
use Rattle.carlson.specs.Constants.{zero}
use Rattle.carlson_arguments.specs.Checks.{any_nan2, any_nan3, any_nan4, below3, zeros_of3}
use Rattle.sorting.specs.declared.Triple.{Triple}
use Rattle.rg_order.specs.Seen.{at}
use Rattle.rg_order.proofs.Seen.{smaller_below, below3_any}
use Rattle.profile_arguments.specs.Arguments.{plus_zero, sized, sized2, sized3, sized4}
use Rattle.profile_laws.specs.Arguments.{F64, nan_kept, below_kept, zero_kept, sized_kept}

-- two arguments of which the tests say the same
pub record Same (x x' : Float) : Type 0 where
  pub nan : is_nan x ≡ is_nan x'
  pub below : lt x zero ≡ lt x' zero
  pub none : eq x zero ≡ eq x' zero
  pub size : sized x ≡ sized x'

pub record Same3 (t t' : Triple) : Type 0 where
  pub x : Same t.x t'.x
  pub y : Same t.y t'.y
  pub z : Same t.z t'.z

-- ---- the checks
pub not_above_same : {x x' : Float} → Same x x' → le x zero ≡ le x' zero
unfolding le
not_above_same X = ap₂ ◌||◌ X.below X.none

module _ {x y x' y' : Float} (X : Same x x') (Y : Same y y') where
  pub nan2_same : any_nan2 x y ≡ any_nan2 x' y'
  nan2_same = ap₂ ◌||◌ X.nan Y.nan

  pub below2_same : lt (minimum x y) zero ≡ lt (minimum x' y') zero
  below2_same = smaller_below x y zero ∙ ap₂ ◌||◌ X.below Y.below ∙ sym (smaller_below x' y' zero)

  pub zeros2_same : (eq x zero && eq y zero) ≡ (eq x' zero && eq y' zero)
  zeros2_same = ap₂ ◌&&◌ X.none Y.none

  pub sized2_same : sized2 x y ≡ sized2 x' y'
  unfolding sized2
  sized2_same = ap₂ ◌&&◌ X.size Y.size

module _ {t t' : Triple} (a : Same3 t t') where
  pub nan3_same : at any_nan3 t ≡ at any_nan3 t'
  nan3_same = ap₂ ◌||◌ (nan2_same a.x a.y) a.z.nan

  pub below3_same : at below3 t ≡ at below3 t'
  below3_same = below3_any t ∙ ap₂ ◌||◌ (ap₂ ◌||◌ a.x.below a.y.below) a.z.below ∙ sym (below3_any t')

  pub zeros3_same : at zeros_of3 t ≡ at zeros_of3 t'
  zeros3_same = ap₂ ◌||◌ (zeros2_same a.x a.y) (ap₂ ◌&&◌ (ap₂ ◌||◌ a.x.none a.y.none) a.z.none)

  pub sized3_same : at sized3 t ≡ at sized3 t'
  unfolding sized3
  sized3_same = ap₂ ◌&&◌ (sized2_same a.x a.y) a.z.size

-- a function of RJ's four arguments
abbrev pub with_p : {A : Type 0} → (Float → Float → Float → Float → A) → Triple → Float → A
with_p f t p = f t.x t.y t.z p

module _ {t t' : Triple} {p p' : Float} (a : Same3 t t') (P : Same p p') where
  pub nan4_same : with_p any_nan4 t p ≡ with_p any_nan4 t' p'
  nan4_same = ap₂ ◌||◌ (nan3_same a) P.nan

  pub sized4_same : with_p sized4 t p ≡ with_p sized4 t' p'
  unfolding sized4
  sized4_same = ap₂ ◌&&◌ (sized3_same a) P.size

-- ---- "-0 becomes +0": the tests do not see it
pub kept_same : (x : Float) → F64 x → Same (plus_zero x) x
kept_same x f = record { nan = nan_kept x f; below = below_kept x f; none = zero_kept x f; size = sized_kept x f }
