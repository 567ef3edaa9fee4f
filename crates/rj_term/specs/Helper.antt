-- RC(1, 1 + y) in the steps of elliprc1p (elliprj.rs), and where RJ asks for it. Definitions only.
use Rattle.std.specs.Prelude.{◌≡◌, cond, not, T, ◌⊎◌, Float}
use Rattle.std.specs.Float.{nan}
use Rattle.std.specs.Float.Ieee.{neg, lt, le}
use Rattle.binary64.specs.Leaves.{absolute}
use Rattle.binary64.specs.Operators.{◌⊕◌, ◌⊖◌, ◌⊗◌, ◌⊘◌, bits}
use Rattle.root.specs.Root.{root}
use Rattle.series.specs.Atan.{atan}
use Rattle.series.specs.Ln.{ln}
use Rattle.series.specs.Ln1p.{ln_1p}
use Rattle.polynomial.specs.Polynomial.{horner}
use Rattle.carlson.specs.Constants.{zero, one, two, half}
use Rattle.carlson.specs.Answer.{closed_at, carried_at}
use Rattle.carlson.specs.declared.answer.Found.{Found}
use Rattle.elliprc.specs.Rc.{rc_unchecked}

-- by its bits: 0.01
abbrev pub hundredth : Float
hundredth = bits 0x3F84_7AE1_47AE_147B

-- by its bits: 1.5
abbrev pub three_halves : Float
three_halves = bits 0x3FF8_0000_0000_0000

-- where RJ asks: what is below -1/2 is not above -3/2
abbrev pub Outside : Float → Type 0
Outside y = T (lt y (neg half)) → T (not (lt (neg three_halves) y))

-- what of it is left for the last branch: -1/2, or NaN
abbrev pub AtHalf : Float → Type 0
AtHalf y = (y ≡ neg half) ⊎ (y ≡ nan)

-- for y above 0.01
unfoldable pub by_atan1p : Float → Float
by_atan1p y = atan (root y) ⊘ root y

-- for y between -1/2 and -0.01
unfoldable pub by_logs1p : Float → Float
by_logs1p y = let arg = root (neg y) in (ln_1p arg ⊖ ln_1p (neg arg)) ⊘ (two ⊗ root (neg y))

-- for y below -1, the Cauchy principal value, with RC's way
unfoldable pub by_rc1p : Float → Found
by_rc1p y = let rc = rc_unchecked (neg y) (neg one ⊖ y) in carried_at (root (one ⊘ neg y) ⊗ rc.value) rc.way

-- what the last branch asks ln at
abbrev pub ln_argument : Float → Float
ln_argument y = (one ⊕ root (neg y)) ⊘ root (one ⊕ y)

-- for y = -1/2, and NaN
unfoldable pub by_ln1p : Float → Float
by_ln1p y = ln (ln_argument y) ⊘ root (neg y)

-- the polynomial for sizes up to 0.01; then by y's place
unfoldable pub rc1p : Float → Found
rc1p y =
    cond (le (absolute y) hundredth) (closed_at (horner y))
    (cond (lt zero y) (closed_at (by_atan1p y))
    (cond (lt (neg half) y) (closed_at (by_logs1p y))
    (cond (lt y (neg one)) (by_rc1p y) (closed_at (by_ln1p y)))))
