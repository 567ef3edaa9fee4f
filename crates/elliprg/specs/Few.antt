-- RG begins at most its joint loop's rounds, and rescales at most once beside the RC that it calls (document 02, 2026-12).
-- Assumes nothing.
use Rattle.std.proofs.Common.{arith}
use Rattle.std.specs.Prelude.{Float, Ok, Err}
use Rattle.std.specs.Float.Ieee.{eq}
use Rattle.binary64.specs.Operators.{◌⊗◌}
use Rattle.root.specs.Root.{root}
use Rattle.carlson.specs.Constants.{zero}
use Rattle.carlson.specs.Common.{mean_cap}
use Rattle.carlson.specs.Answer.{way_of, closed_at, carried_at, agm_at}
use Rattle.carlson.specs.Loop.{capped_holds}
use Rattle.carlson.proofs.Only.{chosen}
use Rattle.carlson_arguments.specs.Rescaled.{rescaled3_to}
use Rattle.carlson.specs.Ways.{Within, Few}
use Rattle.carlson.proofs.Ways.{counted, wider, few_wider, rescaled_within}
use Rattle.carlson.specs.Answer.{Answer}
use Rattle.sorting.specs.Sorting.{largest_first}
use Rattle.elliprc.specs.Few.{rc_within}
use Rattle.rg_means.specs.Means.{rg_begin, rg_next, rg_together, rg_agm_found, rg_agm_spent, rg_agm_of}
use Rattle.rg_joint.specs.Joint.{joint_cap}
use Rattle.rg_joint.proofs.Few.{joint_within}
use Rattle.elliprg.specs.Rg.{rg_equal, rg_zero, rg_two, rg_alone, rg_top, rg_low, rg_sorted, rg_steps, times_root, rg_unchecked}

abbrev Steps : Answer → Type 0
Steps = Few joint_cap 1

means : (x z : Float) → Steps (rg_agm_of x z)
unfolding rg_agm_of agm_at
means x z =
    let s = rg_begin (root x) (root z) in
    capped_holds rg_next rg_together rg_agm_found rg_agm_spent Steps mean_cap (λ t n h. counted n (omega arith)) (λ t n h. tt)
    mean_cap (rg_together s) s 0 (omega arith)

none : Within joint_cap 1 (way_of 0)
none = counted 0 (omega arith)

two : (x y : Float) → Steps (rg_two x y)
unfolding rg_two carried_at
two x y = wider (omega arith) (omega arith) (rc_within x y)

sorted : (x y z : Float) → Steps (rg_sorted x y z)
unfolding rg_sorted rg_top rg_low rg_equal rg_zero rg_alone closed_at
sorted x y z =
    chosen Steps (eq x z) (chosen Steps (eq y z) none (chosen Steps (eq y zero) none (two y x)))
    (chosen Steps (eq y z) (chosen Steps (eq y zero) none (two x y))
    (chosen Steps (eq y zero) (means x z) (wider (omega arith) (omega arith) (joint_within x y z))))

steps : (x y z : Float) → Steps (rg_steps x y z)
unfolding rg_steps
steps x y z = let t = largest_first (record { x = x; y = y; z = z }) in sorted t.x t.y t.z

back : (a : Answer) (s : Float) → Steps a → Few joint_cap 2 (times_root a s)
unfolding times_root
back (Ok f) s h = rescaled_within f (f.value ⊗ root s) h
back (Err n) s h = tt

pub rg_few : (x y z : Float) → Few joint_cap 2 (rg_unchecked x y z)
unfolding rg_unchecked
rg_few = rescaled3_to Steps (Few joint_cap 2) times_root rg_steps steps (few_wider (omega arith) (omega arith)) back
