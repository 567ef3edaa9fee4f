-- When arguments are rescaled, and what is then done (document 01, Rescaling). Definitions only.
use Rattle.std.specs.Prelude.{Bool, ◌&&◌, ◌||◌, cond, Float}
use Rattle.std.specs.Float.Ieee.{lt, eq, ne}
use Rattle.std.specs.Float.Ieee.Scale.{finite}
use Rattle.binary64.specs.Leaves.{absolute, maximum}
use Rattle.binary64.specs.Operators.{◌⊘◌}
use Rattle.derived.specs.Limits.{limit, reciprocal}
use Rattle.carlson.specs.Constants.{zero}

-- scale is the largest argument size
abbrev pub scale_of2 : Float → Float → Float
scale_of2 x y = maximum (absolute x) (absolute y)

abbrev pub scale_of3 : Float → Float → Float → Float
scale_of3 x y z = maximum (scale_of2 x y) (absolute z)

abbrev pub scale_of4 : Float → Float → Float → Float → Float
scale_of4 x y z p = maximum (scale_of3 x y z) (absolute p)

-- "if it is finite, above zero and beyond either"
abbrev pub beyond_limits : Float → Bool
beyond_limits s = finite s && (lt zero s && (lt limit s || lt s reciprocal))

-- "unless a nonzero argument would become zero"
abbrev pub survives : Float → Float → Bool
survives v s = eq v zero || ne (v ⊘ s) zero

abbrev pub survive2 : Float → Float → Float → Bool
survive2 x y s = survives x s && survives y s

abbrev pub survive3 : Float → Float → Float → Float → Bool
survive3 x y z s = survive2 x y s && survives z s

abbrev pub survive4 : Float → Float → Float → Float → Float → Bool
survive4 x y z p s = survive3 x y z s && survives p s

-- whether they are
abbrev pub rescales2 : Float → Float → Float → Bool
rescales2 x y s = beyond_limits s && survive2 x y s

abbrev pub rescales3 : Float → Float → Float → Float → Bool
rescales3 x y z s = beyond_limits s && survive3 x y z s

abbrev pub rescales4 : Float → Float → Float → Float → Float → Bool
rescales4 x y z p s = beyond_limits s && survive4 x y z p s

-- ---- "Arguments are divided by the scale": the steps at those, and what is done to their result with the scale. The Rust
-- calls itself there; the crate `once` shows that the scaled arguments are not rescaled again, so that this is the same.
module _ {A : Type 0} (back : A → Float → A) where
  unfoldable pub rescaling2 : (Float → Float → A) → Float → Float → A
  rescaling2 steps x y = let s = scale_of2 x y in cond (rescales2 x y s) (back (steps (x ⊘ s) (y ⊘ s)) s) (steps x y)

  unfoldable pub rescaling3 : (Float → Float → Float → A) → Float → Float → Float → A
  rescaling3 steps x y z = let s = scale_of3 x y z in cond (rescales3 x y z s) (back (steps (x ⊘ s) (y ⊘ s) (z ⊘ s)) s)
      (steps x y z)
