-- `duplicated` meets its contract. Assumes nothing.
use Rattle.std.proofs.Common.{◌≡◌, ◌+◌, ◌∙◌, refl, sym, ap, arith, false, Float}
use Rattle.carlson.specs.Answer.{duplication_over}
use Rattle.carlson.specs.Loop.{capped, left_on, left_over, left_found}
use Rattle.rj_positive.specs.declared.duplicate.Round.{Round}
use Rattle.rj_positive.specs.Duplicate.{rj_cap, rj_begin, rj_start, rj_step, rj_close, rj_found, rj_spent, rj_duplication}
use Rattle.rj_positive.proofs.duplicate.duplicated.Goals as goal

whole : (x y z p q : Float) (s : Round) → s ≡ rj_begin x y z p → q ≡ rj_start s.an x y z p
    → capped rj_step (rj_close q) (rj_found x y z s.an) rj_spent rj_cap false s 0 ≡ rj_duplication x y z p
unfolding rj_duplication
whole x y z p q s e f = rw (f, e)

pub loop-n-preserved : goal.loop-n-preserved
loop-n-preserved c =
    left_on c.loop-n.invariant refl (omega arith) c.step-at.ensures (sym c.if-close.false ∙ c.close.ensures)

pub returns-then-close : goal.returns-then-close
returns-then-close c =
    let l = c.loop-n in
    let b = c.args in
    let g = c.begin-at in
    c.duplication_over.ensures
    ∙ ap (λ (v : Float). duplication_over v (l.n + 1) c.step-at.result.rescalings) c.series.ensures
    ∙ left_found (left_on l.invariant refl (omega arith) c.step-at.ensures c.close.ensures) c.if-close.true
    ∙ whole b.x b.y b.z b.p c.start_of-q.result g.result g.ensures c.start_of-q.ensures

pub returns-after-loop-n : goal.returns-after-loop-n
returns-after-loop-n c =
    let l = c.loop-n in
    let b = c.args in
    let g = c.begin-at in
    c.duplication_over-2.ensures
    ∙ ap (λ (v : Float). duplication_over v rj_cap l.at.rescalings) c.not_a_number.ensures
    ∙ left_over l.invariant refl (omega arith)
    ∙ whole b.x b.y b.z b.p c.start_of-q.result g.result g.ensures c.start_of-q.ensures
