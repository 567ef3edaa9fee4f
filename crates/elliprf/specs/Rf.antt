-- RF as the steps of elliprf.rs, each rounded once, with document 01's rescaling, numbers and order. Definitions only.
use Rattle.std.specs.Prelude.{cond, Float, Err}
use Rattle.std.specs.Float.Ieee.{eq}
use Rattle.refusals.specs.declared.Refusal.TheVariants.{BelowZero, NanGiven, NoResult, Zeros}
use Rattle.binary64.specs.Operators.{◌⊗◌, ◌⊘◌}
use Rattle.root.specs.Root.{root}
use Rattle.carlson.specs.Constants.{zero, one, two, pi}
use Rattle.carlson_arguments.specs.Rescaling.{rescaling3}
use Rattle.carlson_arguments.specs.Checks.{any_nan3, any_infinite3, below3, zeros_of3}
use Rattle.carlson.specs.Answer.{closed_at, infinite_at, settled}
use Rattle.carlson.specs.declared.answer.Found.{Found}
use Rattle.carlson.specs.Answer.{Answer}
use Rattle.elliprc.specs.Rc.{over_root, rc_unchecked}
use Rattle.elliprf.specs.Means.{rf_agm_of}
use Rattle.rf_duplicate.specs.Duplicate.{rf_duplication}

-- ---- special cases (DLMF 19.20(i))
-- RF(x, x, x)
unfoldable pub rf_equal : Float → Found
rf_equal x = closed_at (one ⊘ root x)

-- RF(0, y, y)
unfoldable pub rf_zero : Float → Found
rf_zero y = closed_at (pi ⊘ (two ⊗ root y))

-- RF(x, y, y) = RC(x, y)
unfoldable pub rf_two : Float → Float → Found
rf_two x y = rc_unchecked x y

-- a zero is exchanged with z, and the mean is of the other two; else duplication, in the order given
unfoldable pub rf_general : Float → Float → Float → Found
rf_general x y z = cond (eq x zero) (rf_agm_of z y)
    (cond (eq y zero) (rf_agm_of x z) (cond (eq z zero) (rf_agm_of x y) (rf_duplication x y z)))

unfoldable pub rf_steps : Float → Float → Float → Found
rf_steps x y z =
    cond (eq x y) (cond (eq x z) (rf_equal x) (cond (eq z zero) (rf_zero x) (rf_two z x)))
    (cond (eq x z) (cond (eq y zero) (rf_zero x) (rf_two y x))
    (cond (eq y z) (cond (eq x zero) (rf_zero y) (rf_two x y)) (rf_general x y z)))

-- ---- rescaling: "the result is divided by the scale's root"
unfoldable pub rf_unchecked : Float → Float → Float → Found
rf_unchecked = rescaling3 over_root rf_steps

-- ---- the entry: 1, 2, 3, then +infinity gives 0, then the steps, then 6
unfoldable pub rf : Float → Float → Float → Answer
rf x y z =
    cond (any_nan3 x y z) (Err NanGiven)
    (cond (below3 x y z) (Err BelowZero)
    (cond (zeros_of3 x y z) (Err Zeros)
    (cond (any_infinite3 x y z) infinite_at (settled (rf_unchecked x y z) NoResult))))
