-- Answers.
use Rattle.report_words.proofs.Steps.{stands_is, added, added_not}
use borrow.Author.Rules.{rules}
use Rattle.report_words.proofs.add.add_counted.Goals as goal

pub overflow_sub-at : goal.overflow_sub-at
overflow_sub-at c =
    let h = stands_is _ _ c.stands.ensures c.if-stands.true in search rules

pub overflow_mul-at : goal.overflow_mul-at
overflow_mul-at c =
    let h = stands_is _ _ c.stands.ensures c.if-stands.true in search rules

pub overflow_add-end : goal.overflow_add-end
overflow_add-end c =
    let h = stands_is _ _ c.stands.ensures c.if-stands.true in search rules

pub offset_bounds-report-at : goal.offset_bounds-report-at
offset_bounds-report-at c =
    let h = stands_is _ _ c.stands.ensures c.if-stands.true in search rules

pub slice_bounds-add_to_block-end : goal.slice_bounds-add_to_block-end
slice_bounds-add_to_block-end c =
    let h = stands_is _ _ c.stands.ensures c.if-stands.true in search rules

pub returns-then-stands : goal.returns-then-stands
returns-then-stands c =
    let a = c.args in
    added a.report.now c.add_to_block.new.block a.function a.counted c.stands.ensures
    c.if-stands.true
    c.add_to_block.ensures

pub returns-else-stands : goal.returns-else-stands
returns-else-stands c =
    let a = c.args in added_not a.report.now a.function a.counted
    c.stands.ensures c.if-stands.false
