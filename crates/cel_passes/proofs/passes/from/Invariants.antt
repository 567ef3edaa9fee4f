-- What stays so in the loop, and what goes down.
use Prim.Native.Nat.{◌+◌, ◌-◌}
use mathlib.Core.Path.{refl, sym, ap, ◌∙◌}
use mathlib.Core.Bool.{not}
use native.Mathlib.Omega.{arith}
use lib.Ieee.{Float}
use Rattle.carlson.specs.Answer.{loop_at}
use Rattle.carlson.specs.Loop.{Left, left_begins, left_on, left_spent, left_found}
use Rattle.cel_passes.specs.Passes.{cel_cap, cel_next, cel_near, cel_found, cel_spent, cel_from}
use Rattle.cel_passes.proofs.passes.from.Given as goal

abbrev pub invariant-loop-at : goal.invariant-loop-at
invariant-loop-at l =
    Left cel_next cel_near cel_found cel_spent (cel_cap - 1) (cel_near l.initial.at) l.initial.at (cel_near l.at) l.at l.n

abbrev pub decreases-loop-at : goal.decreases-loop-at
decreases-loop-at l =
    cel_cap - 1 - l.n
