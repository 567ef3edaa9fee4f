-- What stays so in the loop, and what goes down.
use Prim.Native.Nat.{◌-◌}
use mathlib.Core.Path.{◌≡◌, refl, sym, ap, ◌∙◌}
use mathlib.Core.Bool.{not}
use native.Mathlib.Omega.{arith}
use lib.Ieee.{Float}
use Rattle.root.specs.Root.{root}
use Rattle.carlson.specs.Answer.{agm_at}
use Rattle.carlson.specs.Common.{mean_cap}
use Rattle.carlson.specs.Constants.{zero}
use Rattle.carlson.specs.Loop.{capped, Left, left_begins, left_on, left_spent, left_found}
use Rattle.binary64.specs.Operators.{bits}
use Rattle.elliprd.specs.declared.means.Sums.{Sums}
use Rattle.elliprd.specs.Means.{sums_of, rd_together, rd_agm_found, rd_agm_spent, rd_agm_start, rd_agm_of}
use Rattle.elliprd.proofs.means.agm_of.Given as goal

abbrev pub invariant-loop-s : goal.invariant-loop-s
invariant-loop-s l =
    Left sums_of rd_together (rd_agm_found l.x0 l.y0 l.y l.z) rd_agm_spent mean_cap (rd_together l.initial.s) l.initial.s
    (rd_together l.s) l.s l.n

abbrev pub decreases-loop-s : goal.decreases-loop-s
decreases-loop-s l =
    mean_cap - l.n
