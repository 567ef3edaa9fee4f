-- What the exchanges come to: none is below the one before it, and they are the same three. NaNs are in: a NaN is below nothing,
-- and nothing is below it; where none is NaN, the three are in order. Assumes nothing.
use Rattle.std.specs.Prelude.{◌≡◌, refl, Bool, true, false, cond, Float}
use Rattle.std.proofs.Common.{ap}
use Rattle.std.specs.Float.Ieee.{is_nan, lt, le}
use Rattle.sorting.specs.declared.Triple.{Triple}
use Rattle.sorting.specs.Sorting.{rise_xy, rise_yz, fall_xy, fall_xz, rising, largest_first}
use Rattle.sorting.specs.Sorting.{three, Permuted, as_it_is, first_two, last_two, and_then}
use Rattle.sorting.specs.Permuted.{Each, Rises, Upward, ToldApart}
use Rattle.sorting.specs.Order.{lt_once, not_below_through, not_below_le}

-- ---- none is below the one before it
-- the smallest in y, the largest in x
abbrev pub LargestFirst : Triple → Type 0
LargestFirst t = Rises t.y t.z t.x

-- ---- where none is NaN, they are in order
abbrev pub Number : Float → Type 0
Number a = is_nan a ≡ false

-- a <= b <= c, and so a <= c
pub record InOrder (a b c : Float) : Type 0 where
  pub lower : le a b ≡ true
  pub upper : le b c ≡ true
  pub ends : le a c ≡ true
