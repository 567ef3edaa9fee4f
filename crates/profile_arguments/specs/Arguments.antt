-- What the bench profile holds every argument to (document 02, 2026-14). Definitions only.
use Rattle.std.specs.Prelude.{Bool, ◌&&◌, ◌||◌, cond, Float}
use Rattle.std.specs.Float.Ieee.{le, eq}
use Rattle.binary64.specs.Leaves.{absolute}
use Rattle.carlson.specs.Constants.{zero}
use Rattle.units.specs.Statement.{least, most}

-- "-0 becomes +0 first"
unfoldable pub plus_zero : Float → Float
plus_zero x = cond (eq x zero) zero x

-- "each argument must be zero or of size from 2 ^ -64 to 2 ^ 64": both ends are in, a NaN is not
unfoldable pub sized : Float → Bool
sized x = eq x zero || (le least (absolute x) && le (absolute x) most)

unfoldable pub sized2 : Float → Float → Bool
sized2 x y = sized x && sized y

unfoldable pub sized3 : Float → Float → Float → Bool
sized3 x y z = sized2 x y && sized z

unfoldable pub sized4 : Float → Float → Float → Float → Bool
sized4 x y z p = sized3 x y z && sized p
