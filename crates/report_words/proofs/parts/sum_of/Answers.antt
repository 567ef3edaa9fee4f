-- Answers.
use mathlib.Core.Path.{◌∙◌}
use Rattle.report_words.proofs.Steps.{stands_is, sum_there, sum_not}
use borrow.Author.Rules.{rules}
use Rattle.report_words.proofs.parts.sum_of.Goals as goal

pub overflow_sub-at : goal.overflow_sub-at
overflow_sub-at c =
    let h = stands_is _ _ c.stands.ensures c.if-stands.true in search rules

pub overflow_mul-at : goal.overflow_mul-at
overflow_mul-at c =
    let h = stands_is _ _ c.stands.ensures c.if-stands.true in search rules

pub overflow_add-at : goal.overflow_add-at
overflow_add-at c =
    let h = stands_is _ _ c.stands.ensures c.if-stands.true in search rules

pub overflow_add-end : goal.overflow_add-end
overflow_add-end c =
    let h = stands_is _ _ c.stands.ensures c.if-stands.true in search rules

pub offset_bounds-report-at : goal.offset_bounds-report-at
offset_bounds-report-at c =
    let h = stands_is _ _ c.stands.ensures c.if-stands.true in search rules

pub slice_bounds-rounded-end : goal.slice_bounds-rounded-end
slice_bounds-rounded-end c =
    let h = stands_is _ _ c.stands.ensures c.if-stands.true in search rules

pub returns-then-stands : goal.returns-then-stands
returns-then-stands c =
    let a = c.args in c.rounded.ensures
    ∙ sum_there a.report.now a.function c.stands.ensures c.if-stands.true

pub returns : goal.returns
returns c =
    let a = c.args in sum_not a.report.now a.function c.stands.ensures
    c.if-stands.false
