-- `onward` meets its contract. Assumes nothing.
use Rattle.std.proofs.Common.{◌+◌, ◌∙◌, refl, sym, ap, arith, Float}
use Rattle.carlson.specs.Answer.{duplication_at}
use Rattle.carlson.specs.Loop.{left_on, left_over, left_found}
use Rattle.rf_duplicate.specs.Duplicate.{rf_cap}
use Rattle.rf_duplicate.proofs.duplicate.onward.Goals as goal

pub loop-m-preserved : goal.loop-m-preserved
loop-m-preserved c =
    left_on c.loop-m.invariant refl (omega arith) c.step-at.ensures (sym c.if-close.false ∙ c.close.ensures)

pub returns-then-close : goal.returns-then-close
returns-then-close c =
    let l = c.loop-m in
    c.duplication.ensures ∙ ap (λ (v : Float). duplication_at v (l.m + 1)) c.series.ensures
    ∙ left_found (left_on l.invariant refl (omega arith) c.step-at.ensures c.close.ensures) c.if-close.true

pub returns-after-loop-m : goal.returns-after-loop-m
returns-after-loop-m c =
    c.duplication-2.ensures ∙ ap (λ (v : Float). duplication_at v rf_cap) c.not_a_number.ensures
    ∙ left_over c.loop-m.invariant refl (omega arith)
