-- RG as the steps of elliprg.rs, each rounded once, with document 01's rescaling, numbers and order. Definitions only.
use Rattle.std.specs.Prelude.{Bool, false, cond, Float, Ok, Err}
use Rattle.std.specs.Float.Ieee.{eq}
use Rattle.refusals.specs.declared.Refusal.TheVariants.{BelowZero, RgNoResult}
use Rattle.binary64.specs.Operators.{◌⊕◌, ◌⊗◌, ◌⊘◌}
use Rattle.root.specs.Root.{root}
use Rattle.carlson.specs.Constants.{zero, two, four, pi}
use Rattle.carlson_arguments.specs.Rescaling.{rescaling3}
use Rattle.carlson_arguments.specs.Checks.{any_nan3, below3}
use Rattle.carlson.specs.Answer.{closed_at, carried_at, rescaled_at, settled_late}
use Rattle.carlson.specs.Answer.{Answer}
use Rattle.elliprc.specs.Rc.{rc_unchecked}
use Rattle.rg_means.specs.Means.{rg_agm_of}
use Rattle.rg_joint.specs.Joint.{rg_joint}
use Rattle.sorting.specs.Sorting.{largest_first}

-- ---- special cases (DLMF 19.20(ii))
-- RG(x, x, x)
unfoldable pub rg_equal : Float → Answer
rg_equal x = Ok (closed_at (root x))

-- RG(0, y, y)
unfoldable pub rg_zero : Float → Answer
rg_zero y = Ok (closed_at (pi ⊗ root y ⊘ four))

-- RG(x, y, y)
unfoldable pub rg_two : Float → Float → Answer
rg_two x y = let rc = rc_unchecked x y in Ok (carried_at ((y ⊗ rc.value ⊕ root x) ⊘ two) rc.way)

-- RG(0, 0, x)
unfoldable pub rg_alone : Float → Answer
rg_alone x = Ok (closed_at (root x ⊘ two))

unfoldable pub rg_top : Float → Float → Float → Answer
rg_top x y z = cond (eq y z) (rg_equal x) (cond (eq y zero) (rg_zero x) (rg_two y x))

unfoldable pub rg_low : Float → Float → Answer
rg_low x y = cond (eq y zero) (rg_alone x) (rg_two x y)

unfoldable pub rg_sorted : Float → Float → Float → Answer
rg_sorted x y z =
    cond (eq x z) (rg_top x y z) (cond (eq y z) (rg_low x y) (cond (eq y zero) (rg_agm_of x z) (Ok (rg_joint x y z))))

unfoldable pub rg_steps : Float → Float → Float → Answer
rg_steps x y z = let t = largest_first (record { x = x; y = y; z = z }) in rg_sorted t.x t.y t.z

-- ---- rescaling: "multiplied by the root"
unfoldable pub times_root : Answer → Float → Answer
times_root (Ok f) s = Ok (rescaled_at f (f.value ⊗ root s))
times_root (Err n) s = Err n

unfoldable pub rg_unchecked : Float → Float → Float → Answer
rg_unchecked = rescaling3 times_root rg_steps

-- ---- the entry: 2, steps with 9; finite stands; else 1, 8
unfoldable pub rg_settled : Answer → Bool → Answer
rg_settled (Ok f) nan = settled_late f nan false RgNoResult
rg_settled (Err n) nan = Err n

unfoldable pub rg : Float → Float → Float → Answer
rg x y z = cond (below3 x y z) (Err BelowZero) (rg_settled (rg_unchecked x y z) (any_nan3 x y z))
