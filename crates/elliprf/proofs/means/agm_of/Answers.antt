-- `agm_of` meets its contract. Assumes nothing.
use Rattle.std.proofs.Common.{◌≡◌, ◌∙◌, refl, sym, ap, not, arith, Float}
use Rattle.root.specs.Root.{root}
use Rattle.carlson.specs.Answer.{agm_at}
use Rattle.carlson.specs.Loop.{capped, left_on, left_either, left_found}
use Rattle.elliprf.specs.declared.means.Means.{Means}
use Rattle.rf_duplicate.specs.Duplicate.{rf_cap}
use Rattle.elliprf.specs.Means.{rf_means_of, rf_agm_count, rf_together, rf_agm_start, rf_agm_of}
use Rattle.elliprf.proofs.means.agm_of.Goals as goal

whole : (x y : Float) (m : Means) → m ≡ rf_agm_start x y
    → capped rf_means_of rf_together rf_agm_count rf_agm_count rf_cap (rf_together m) m 0
    ≡ rf_agm_of x y
unfolding rf_agm_of
whole x y m e = rw e

-- the two roots are the start
started : (x y rx ry : Float) → rx ≡ root x → ry ≡ root y → ◌≡◌ {A = Means} (record { xn = rx; yn = ry }) (rf_agm_start x y)
unfolding rf_agm_start
started x y rx ry e f = rw (e, f)

pub loop-n-preserved : goal.loop-n-preserved
loop-n-preserved c =
    left_on c.loop-n.invariant (ap not (sym c.still_apart.ensures ∙ c.if-not-still_apart.false)) (omega arith)
    c.next_means-m.ensures refl

pub returns-then-not-still_apart : goal.returns-then-not-still_apart
returns-then-not-still_apart c =
    let l = c.loop-n in
    let b = c.args in
    c.agm.ensures ∙ ap (λ (v : Float). agm_at v l.n) c.value_of.ensures
    ∙ left_found l.invariant (ap not (sym c.still_apart.ensures ∙ c.if-not-still_apart.true))
    ∙ whole b.x b.y _ (started b.x b.y _ _ c.sqrt.ensures c.sqrt-2.ensures)

-- with no pass left it answers all the same
pub returns-after-loop-n : goal.returns-after-loop-n
returns-after-loop-n c =
    let l = c.loop-n in
    let b = c.args in
    c.agm-2.ensures ∙ ap (λ (v : Float). agm_at v rf_cap) c.value_of-2.ensures
    ∙ left_either l.invariant refl (omega arith)
    ∙ whole b.x b.y _ (started b.x b.y _ _ c.sqrt.ensures c.sqrt-2.ensures)
