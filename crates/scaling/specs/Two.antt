-- Two runs of one computation, the second with its arguments multiplied by powers of two. `Two f k K x y`: x of the first run and
-- y of the second are floats of the kind K, of one sign, and y is x times 2 ^ (k * K.u) / 2 ^ (k * K.d), exactly. Each
-- operation keeps this: the rules below, one for each, ask for a test that computes.
use Rattle.std.specs.Prelude.{◌≡◌, ◌⊎◌, ℕ, ◌+◌, ◌-◌, ◌*◌, ◌^◌, ◌<◌, min, Bool, not, ◌&&◌, ◌||◌, [], ◌∷◌, T, leb, eqb, Float}
use Rattle.std.proofs.Math.Path.{refl}
use Rattle.std.proofs.Common.{sym, ap, ◌∙◌, subst, inl, inr, lt_of_lt_of_le, lt_of_le_of_lt, mul-add, ltb→lt, eqb→eq, pow-add, pow_pos}
use Rattle.std.proofs.Math.Dec.{ltb}
use Rattle.std.specs.Float.{Format}
use Rattle.std.specs.Float.Ieee.{prec, low, unlike, add, mul, div, lt}
use Rattle.std.specs.Float.Ieee.Fits.{and_l, and_r}
use Rattle.std.specs.Float.Ieee.Scale.{overflow}
use Rattle.algebra.specs.Ring.{◌:*◌, ◌≈◌, ◌⊩◌, ◌times◌≼◌}
use Rattle.algebra.proofs.Ring.{ring}
use Rattle.scaling.specs.Near.{near, near_whole}
use Rattle.scaling.specs.Cross.{add_n, add_s, add_n_cross, add_s_cross, below_cross}
use Rattle.scaling.specs.Units.{Is, mul_units, div_units, add_units, lt_units}
use Rattle.scaling.specs.Kind.{Kind, In, floor, level?, mul_k, mul_ok, div_k, div_ok, plus_k, plus_ok}
use Rattle.scaling.specs.Kind.{sum_k}
use Rattle.scaling.specs.Kind.{sum_ok, nudge_k, nudge_ok, last}
use Rattle.scaling.specs.Last.{Digits, Multiple}

pub record Two (f : Format) (k : ℕ) (K : Kind) (x y : Float) : Type 0 where
  pub s : Bool
  pub m : ℕ
  pub n : ℕ
  pub first : Is f x s m
  pub second : Is f y s n
  pub in_first : In K s m
  pub in_second : In K s n
  pub grain : Multiple K.g m
  pub grain_second : Multiple K.g n
  pub tie : n * 2 ^ (k * K.d) ≡ m * 2 ^ (k * K.u)
