-- RC as elliprc.rs has it, each step rounded once, with document 01's rescaling, numbers and order. Definitions only.
use Rattle.std.specs.Prelude.{cond, Float, Err}
use Rattle.std.specs.Float.Ieee.{lt, eq}
use Rattle.refusals.specs.declared.Refusal.TheVariants.{BelowZero, RcNoResult, ZeroGiven}
use Rattle.binary64.specs.Operators.{◌⊘◌}
use Rattle.root.specs.Root.{root}
use Rattle.carlson.specs.Constants.{zero}
use Rattle.carlson_arguments.specs.Rescaling.{rescaling2}
use Rattle.carlson_arguments.specs.Checks.{any_nan2, any_infinite2}
use Rattle.carlson.specs.Answer.{closed_at, rescaled_at, settled_late}
use Rattle.carlson.specs.declared.answer.Found.{Found}
use Rattle.carlson.specs.Answer.{Answer}
use Rattle.rc_cases.specs.Cases.{rc_steps}

-- ---- the closed forms; RC counts no round
unfoldable pub rc_found : Float → Float → Found
rc_found x y = closed_at (rc_steps x y)

-- ---- rescaling: "the result is divided by the scale's root"
unfoldable pub over_root : Found → Float → Found
over_root f s = rescaled_at f (f.value ⊘ root s)

unfoldable pub rc_unchecked : Float → Float → Found
rc_unchecked = rescaling2 over_root rc_found

-- ---- the entry: 2, 4, steps; a finite result stands; else 1, then +infinity gives 0, then 7. RC counts no round.
unfoldable pub rc : Float → Float → Answer
rc x y =
    cond (lt x zero) (Err BelowZero)
    (cond (eq y zero) (Err ZeroGiven)
    (settled_late (rc_unchecked x y) (any_nan2 x y) (any_infinite2 x y) RcNoResult))
