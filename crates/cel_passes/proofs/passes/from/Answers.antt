-- `from` meets its contract. The invariant: what is left of the loop gives what the whole loop gives. Assumes nothing.
use Prim.Native.Nat.{◌+◌, ◌-◌}
use mathlib.Core.Path.{refl, sym, ap, ◌∙◌}
use mathlib.Core.Bool.{not}
use native.Mathlib.Omega.{arith}
use lib.Ieee.{Float}
use Rattle.carlson.specs.Answer.{loop_at}
use Rattle.carlson.specs.Loop.{Left, left_begins, left_on, left_spent, left_found}
use Rattle.cel_passes.specs.Passes.{cel_cap, cel_next, cel_near, cel_found, cel_spent, cel_from}
use Rattle.cel_passes.proofs.passes.from.Goals as goal

pub loop-at-preserved : goal.loop-at-preserved
loop-at-preserved c =
    left_on c.loop-at.invariant (ap not (sym c.far.ensures ∙ c.if-far.true)) (omega arith)
    c.next-at.ensures refl

pub returns-then-n : goal.returns-then-n
unfolding cel_from
returns-then-n c =
    let l = c.loop-at in
    c.looped.ensures ∙ ap (λ (v : Float). loop_at v (l.n + 1)) c.not_a_number.ensures
    ∙ left_spent l.invariant (ap not (sym c.far.ensures ∙ c.if-far.true))
    c.if-n.true

pub returns-else-far : goal.returns-else-far
unfolding cel_from
returns-else-far c =
    let l = c.loop-at in
    c.looped-else-far.ensures ∙ ap (λ (v : Float). loop_at v (l.n + 1)) c.value_of.ensures
    ∙ left_found l.invariant (ap not (sym c.far.ensures ∙ c.if-far.false))
