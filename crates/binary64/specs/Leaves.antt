-- What the simple leaves give, at every f64 (document 01, "What the leaves mean"). Definitions only.
-- The bits of an f64 are the library's `to_bits` and `of_bits`, and `finite` is its own: they need no definition here.
use Rattle.std.specs.Prelude.{false, cond, Float}
use Rattle.std.specs.Float.{nan, inf, fin}
use Rattle.std.specs.Float.Ieee.{lt, is_nan}

-- the absolute value: the sign is cleared, a zero's too
unfoldable pub absolute : Float → Float
absolute nan = nan
absolute (inf s) = inf false
absolute (fin s m e) = fin false m e

-- The larger of two: a NaN is passed over, two NaNs give NaN, and of equal ones (two zeros) the first is taken.
unfoldable pub maximum : Float → Float → Float
maximum x y = cond (is_nan x) y (cond (lt x y) y x)

-- the smaller of two, likewise
unfoldable pub minimum : Float → Float → Float
minimum x y = cond (is_nan x) y (cond (lt y x) y x)
