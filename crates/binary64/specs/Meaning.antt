-- That no second answer would do (document 01, "How tight the contracts are"). A contract `r ≡ definition` leaves one answer by
-- itself; shown here is that document 01's own words for the leaf leave one too, and that it is the definition's. Assumes
-- nothing.
use Rattle.std.specs.Prelude.{ℕ, ◌%◌, ◌^◌, ◌≤◌, ◌<◌, ◌≡◌, refl, Bool, true, false, not, cond, T, Float}
use Rattle.std.proofs.Common.{sym, ap, ◌∙◌, subst, true≢false}
use Rattle.std.specs.Float.{nan, inf, fin, binary64}
use Rattle.std.specs.Float.Ieee.{fits, is_nan, lt, of_bits, to_bits}
use Rattle.std.specs.Float.Ieee.Bits.{of_bits-to_bits, to_bits-of_bits, nan_bits_is}
use Rattle.rounding.specs.Cut.{infinity}
use Rattle.binary64.specs.Leaves.{maximum, minimum}
use Rattle.binary64.specs.Tests.{bits_number}

-- ---- maximum and minimum: r is the one of x and y that document 01 names, where `second` says that y is the one by the order
pub record Chosen (second : Bool) (x y r : Float) : Type 0 where
  pub first_passed : is_nan x ≡ true → r ≡ y
  pub second_passed : is_nan y ≡ true → r ≡ x
  pub taken : is_nan x ≡ false → is_nan y ≡ false → second ≡ true → r ≡ y
  pub kept : is_nan x ≡ false → is_nan y ≡ false → second ≡ false → r ≡ x
