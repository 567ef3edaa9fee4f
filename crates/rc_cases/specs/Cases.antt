-- RC's closed forms as the steps of elliprc.rs, each rounded once. Definitions only.
use Rattle.std.specs.Prelude.{cond, Float}
use Rattle.std.specs.Float.Ieee.{lt, eq, neg}
use Rattle.binary64.specs.Operators.{◌⊕◌, ◌⊖◌, ◌⊗◌, ◌⊘◌}
use Rattle.root.specs.Root.{root}
use Rattle.series.specs.Atan.{atan}
use Rattle.series.specs.Ln.{ln}
use Rattle.series.specs.Ln1p.{ln_1p}
use Rattle.carlson.specs.Constants.{zero, one, two, half, half_pi}

-- ---- the closed forms, in the Rust's order
-- RC(0, y)
unfoldable pub rc_at_zero : Float → Float → Float
rc_at_zero prefix y = prefix ⊗ half_pi ⊘ root y

-- RC(x, x)
unfoldable pub rc_at_equal : Float → Float → Float
rc_at_equal prefix x = prefix ⊘ root x

-- for y > x: the arctangent of the root of the whole quotient (y - x) / x
unfoldable pub rc_by_atan : Float → Float → Float → Float
rc_by_atan prefix x y = prefix ⊗ atan (root ((y ⊖ x) ⊘ x)) ⊘ root (y ⊖ x)

-- for y < x with y / x above one half
unfoldable pub rc_by_ln1p : Float → Float → Float → Float
rc_by_ln1p prefix x y = let arg = root ((x ⊖ y) ⊘ x) in prefix ⊗ (ln_1p arg ⊖ ln_1p (neg arg)) ⊘ (two ⊗ root (x ⊖ y))

-- for y < x else
unfoldable pub rc_by_ln : Float → Float → Float → Float
rc_by_ln prefix x y = prefix ⊗ ln ((root x ⊕ root (x ⊖ y)) ⊘ root y) ⊘ root (x ⊖ y)

unfoldable pub rc_cases : Float → Float → Float → Float
rc_cases prefix x y =
    cond (eq x zero) (rc_at_zero prefix y)
    (cond (eq x y) (rc_at_equal prefix x)
    (cond (lt x y) (rc_by_atan prefix x y)
    (cond (lt half (y ⊘ x)) (rc_by_ln1p prefix x y) (rc_by_ln prefix x y))))

-- for y < 0, the Cauchy principal value
unfoldable pub rc_steps : Float → Float → Float
rc_steps x y = cond (lt y zero) (rc_cases (root (x ⊘ (x ⊖ y))) (x ⊖ y) (neg y)) (rc_cases one x y)
