-- What stays so in the loop, and what goes down.
use Prim.Native.Nat.{◌-◌}
use mathlib.Core.Path.{◌≡◌, refl, sym, ap, ◌∙◌}
use mathlib.Core.Bool.{not}
use native.Mathlib.Omega.{arith}
use lib.Ieee.{Float}
use Rattle.root.specs.Root.{root}
use Rattle.carlson.specs.Answer.{agm_at}
use Rattle.carlson.specs.Common.{mean_cap}
use Rattle.carlson.specs.Loop.{capped, Left, left_begins, left_on, left_spent, left_found}
use Rattle.rg_means.specs.declared.means.Sums.{Sums}
use Rattle.rg_means.specs.Means.{rg_begin, rg_next, rg_together, rg_agm_found, rg_agm_spent, rg_agm_of}
use Rattle.rg_means.proofs.means.agm_of.Given as goal

abbrev pub invariant-loop-s : goal.invariant-loop-s
invariant-loop-s l =
    Left rg_next rg_together rg_agm_found rg_agm_spent mean_cap (rg_together l.initial.s) l.initial.s (rg_together l.s) l.s l.n

abbrev pub decreases-loop-s : goal.decreases-loop-s
decreases-loop-s l =
    mean_cap - l.n
