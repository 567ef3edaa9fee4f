-- The arguments of which document 02, 2026-13 speaks. Definitions only.
use Rattle.std.specs.Prelude.{◌≡◌, false, T, Float}
use Rattle.std.specs.Float.{binary64}
use Rattle.std.specs.Float.Ieee.{fits, is_nan, neg}
use Rattle.carlson.specs.Constants.{zero}

-- an f64 that is not NaN and not -0: negative numbers, +0 and both infinities are in
pub record Plain (x : Float) : Type 0 where
  pub fit : T (fits binary64 x)
  pub number : is_nan x ≡ false
  pub not_minus_zero : x ≡ neg zero → ⊥
