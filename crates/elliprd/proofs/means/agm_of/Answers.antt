-- `agm_of` meets its contract. The invariant: what is left of the loop gives what the whole loop gives. Assumes nothing.
use Rattle.std.proofs.Common.{Ok}
use Prim.Native.Nat.{◌-◌}
use mathlib.Core.Path.{◌≡◌, refl, sym, ap, ◌∙◌}
use mathlib.Core.Bool.{not}
use native.Mathlib.Omega.{arith}
use lib.Ieee.{Float}
use Rattle.root.specs.Root.{root}
use Rattle.carlson.specs.Answer.{agm_at}
use Rattle.carlson.specs.Common.{mean_cap}
use Rattle.carlson.specs.Constants.{zero}
use Rattle.carlson.specs.Loop.{capped, Left, left_begins, left_on, left_spent, left_found}
use Rattle.binary64.specs.Operators.{bits}
use Rattle.elliprd.specs.declared.means.Sums.{Sums}
use Rattle.elliprd.specs.Means.{sums_of, rd_together, rd_agm_found, rd_agm_spent, rd_agm_start, rd_agm_of}
use Rattle.elliprd.proofs.means.agm_of.Goals as goal

abbrev begun : Float → Float → Sums
begun a b = record { xn = a; yn = b; sum = zero; sumpow = bits 0x3FD0_0000_0000_0000 }

whole : (y z a b : Float) → a ≡ root y → b ≡ root z
    → capped sums_of rd_together (rd_agm_found a b y z) rd_agm_spent mean_cap (rd_together (begun a b)) (begun a b) 0 ≡ rd_agm_of y z
unfolding rd_agm_of rd_agm_start
whole y z a b e f = rw (e, f)

pub loop-s-preserved : goal.loop-s-preserved
loop-s-preserved c =
    left_on c.loop-s.invariant (ap not (sym c.still_apart.ensures ∙ c.if-still_apart.true)) (omega arith)
    c.next_sums-s.ensures refl

pub returns-then-n-eq-MEAN_CAP : goal.returns-then-n-eq-MEAN_CAP
returns-then-n-eq-MEAN_CAP c =
    let b = c.args in
    left_spent c.loop-s.invariant (ap not (sym c.still_apart.ensures ∙ c.if-still_apart.true)) c.if-n-eq-MEAN_CAP.true
    ∙ whole b.y b.z _ _ c.sqrt-x0.ensures c.sqrt-y0.ensures

pub returns-else-still_apart : goal.returns-else-still_apart
returns-else-still_apart c =
    let l = c.loop-s in
    let b = c.args in
    ap Ok (c.agm.ensures ∙ ap (λ (v : Float). agm_at v l.n) c.value_of.ensures)
    ∙ left_found l.invariant (ap not (sym c.still_apart.ensures ∙ c.if-still_apart.false))
    ∙ whole b.y b.z _ _ c.sqrt-x0.ensures c.sqrt-y0.ensures
