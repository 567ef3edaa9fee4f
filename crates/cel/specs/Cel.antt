-- cel with document 02's numbers and order (2026-09). Definitions only.
use Rattle.std.specs.Prelude.{ℕ, Bool, ◌&&◌, ◌||◌, cond, Float, Ok, Err}
use Rattle.std.specs.Float.Ieee.{eq}
use Rattle.std.specs.Float.Ieee.Scale.{finite}
use Rattle.refusals.specs.declared.Refusal.TheVariants.{AOrBInfinite, NanGiven, NoResult, SeveralInfinite, ZeroGiven}
use Rattle.binary64.specs.Leaves.{absolute}
use Rattle.carlson.specs.Constants.{zero, infinity}
use Rattle.carlson_arguments.specs.Checks.{any_nan4}
use Rattle.carlson.specs.Answer.{infinite_at}
use Rattle.carlson.specs.declared.answer.Found.{Found}
use Rattle.carlson.specs.Answer.{Answer}
use Rattle.cel_passes.specs.Passes.{cel_steps}

abbrev pub unbounded : Float → Bool
unbounded x = eq (absolute x) infinity

-- of two, of four
unfoldable pub either_unbounded : Float → Float → Bool
either_unbounded x y = unbounded x || unbounded y

unfoldable pub both_unbounded : Float → Float → Bool
both_unbounded x y = unbounded x && unbounded y

-- more than one of the four: both of a pair, or one of each
unfoldable pub several_unbounded : Float → Float → Float → Float → Bool
several_unbounded kc p a b =
    (both_unbounded kc p || both_unbounded a b) || (either_unbounded kc p && either_unbounded a b)

-- where the steps gave no finite value
unfoldable pub cel_unsettled : Float → Float → Float → Float → Answer
cel_unsettled kc p a b =
    cond (any_nan4 kc p a b) (Err NanGiven)
    (cond (several_unbounded kc p a b) (Err SeveralInfinite)
    (cond (either_unbounded kc p) infinite_at
    (cond (either_unbounded a b) (Err AOrBInfinite) (Err NoResult))))

-- "a finite result stands"
unfoldable pub cel_settled : Found → Float → Float → Float → Float → Answer
cel_settled f kc p a b = cond (finite f.value) (Ok f) (cel_unsettled kc p a b)

-- ---- the entry: "4 for kc or p zero, steps; a finite result stands; else 1, then more than one infinite argument, then kc or p
-- infinite gives 0, then a or b infinite, then 6"; the arguments are tested as given
unfoldable pub cel : Float → Float → Float → Float → Answer
cel kc p a b = cond (eq kc zero || eq p zero) (Err ZeroGiven) (cel_settled (cel_steps kc p a b) kc p a b)
