-- Answers.
use native.Mathlib.Omega.{arith}
use Rattle.report_words.proofs.Steps.{stands_is, word_past, word_there, word_not}
use borrow.Author.Rules.{rules}
use Rattle.report_words.proofs.parts.word_at.Goals as goal

pub returns-then-place-ge-BLOCK : goal.returns-then-place-ge-BLOCK
returns-then-place-ge-BLOCK c =
    let a = c.args in word_past a.report.now a.function a.place (omega arith)

pub overflow_sub-result : goal.overflow_sub-result
overflow_sub-result c =
    let h = stands_is _ _ c.stands.ensures c.if-stands.true in search rules

pub overflow_mul-result : goal.overflow_mul-result
overflow_mul-result c =
    let h = stands_is _ _ c.stands.ensures c.if-stands.true in search rules

pub overflow_add-result : goal.overflow_add-result
overflow_add-result c =
    let h = stands_is _ _ c.stands.ensures c.if-stands.true in search rules

pub offset_bounds-report-function : goal.offset_bounds-report-function
offset_bounds-report-function c =
    let h = stands_is _ _ c.stands.ensures c.if-stands.true in search rules

pub bounds-report-function : goal.bounds-report-function
bounds-report-function c =
    let h = stands_is _ _ c.stands.ensures c.if-stands.true in search rules

pub returns-then-stands : goal.returns-then-stands
returns-then-stands c =
    let a = c.args in word_there a.report.now a.function a.place (omega arith)
    c.stands.ensures c.if-stands.true

pub returns : goal.returns
returns c =
    let a = c.args in word_not a.report.now a.function a.place (omega arith)
    c.stands.ensures c.if-stands.false
