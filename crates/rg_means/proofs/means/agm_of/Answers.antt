-- `agm_of` meets its contract. The invariant: what is left of the loop gives what the whole loop gives. Assumes nothing.
use Rattle.std.proofs.Common.{Ok}
use Prim.Native.Nat.{◌-◌}
use mathlib.Core.Path.{◌≡◌, refl, sym, ap, ◌∙◌}
use mathlib.Core.Bool.{not}
use native.Mathlib.Omega.{arith}
use lib.Ieee.{Float}
use Rattle.root.specs.Root.{root}
use Rattle.carlson.specs.Answer.{agm_at}
use Rattle.carlson.specs.Common.{mean_cap}
use Rattle.carlson.specs.Loop.{capped, Left, left_begins, left_on, left_spent, left_found}
use Rattle.rg_means.specs.declared.means.Sums.{Sums}
use Rattle.rg_means.specs.Means.{rg_begin, rg_next, rg_together, rg_agm_found, rg_agm_spent, rg_agm_of}
use Rattle.rg_means.proofs.means.agm_of.Goals as goal

whole : (x z a b : Float) (s : Sums) → a ≡ root x → b ≡ root z → s ≡ rg_begin a b
    → capped rg_next rg_together rg_agm_found rg_agm_spent mean_cap (rg_together s) s 0 ≡ rg_agm_of x z
unfolding rg_agm_of
whole x z a b s e f g = rw (g, e, f)

pub loop-s-preserved : goal.loop-s-preserved
loop-s-preserved c =
    left_on c.loop-s.invariant (ap not (sym c.still_apart.ensures ∙ c.if-still_apart.true)) (omega arith)
    c.next_sums-s.ensures refl

pub returns-then-n-eq-MEAN_CAP : goal.returns-then-n-eq-MEAN_CAP
returns-then-n-eq-MEAN_CAP c =
    let b = c.args in
    left_spent c.loop-s.invariant (ap not (sym c.still_apart.ensures ∙ c.if-still_apart.true)) c.if-n-eq-MEAN_CAP.true
    ∙ whole b.x b.z _ _ c.begin-s.result c.sqrt.ensures c.sqrt-2.ensures
    c.begin-s.ensures

pub returns-else-still_apart : goal.returns-else-still_apart
returns-else-still_apart c =
    let l = c.loop-s in
    let b = c.args in
    ap Ok (c.agm.ensures ∙ ap (λ (v : Float). agm_at v l.n) c.value_of.ensures)
    ∙ left_found l.invariant (ap not (sym c.still_apart.ensures ∙ c.if-still_apart.false))
    ∙ whole b.x b.z _ _ c.begin-s.result c.sqrt.ensures c.sqrt-2.ensures
    c.begin-s.ensures
