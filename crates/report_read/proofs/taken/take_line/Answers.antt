-- `take_line` meets its contract. Assumes nothing.
use mathlib.Core.Path.{refl, sym, ap, ◌∙◌}
use lib.ListN.{length}
use native.Mathlib.Omega.{arith}
use Rattle.report_read.proofs.Tries.{no_report, takes_bad, takes_found, takes_none, take_spent, stays, goes_on}
use Rattle.report_read.proofs.taken.take_line.Goals as goal

pub returns-then-words-ne-WORDS : goal.returns-then-words-ne-WORDS
returns-then-words-ne-WORDS c =
    let a = c.args in record {
      value = (takes_bad a.q a.words.now a.line.now a.words.now refl
          (no_report a.q a.words.now a.line.now (λ e. omega arith))).0;
      words_after = (takes_bad a.q a.words.now a.line.now a.words.now refl
          (no_report a.q a.words.now a.line.now (λ e. omega arith))).1;
    }

pub loop-k-init : goal.loop-k-init
loop-k-init c =
    (refl, omega arith, refl)

pub returns-then-try_line : goal.returns-then-try_line
returns-then-try_line c =
    let l = c.loop-k in let a = c.args in record {
      value = (takes_found a.q a.words.now a.line.now l.k l.words c.try_line.new.words l.invariant.0
          (sym (ap length l.invariant.0) ∙ l.invariant.1) (omega arith) l.invariant.2 c.try_line.ensures.value c.try_line.ensures.words_after
          c.if-try_line.true).0;
      words_after = (takes_found a.q a.words.now a.line.now l.k l.words c.try_line.new.words l.invariant.0
          (sym (ap length l.invariant.0) ∙ l.invariant.1) (omega arith) l.invariant.2 c.try_line.ensures.value c.try_line.ensures.words_after
          c.if-try_line.true).1;
    }

pub loop-k-preserved : goal.loop-k-preserved
loop-k-preserved c =
    let l = c.loop-k in
    let a = c.args in
    let m = sym (ap length l.invariant.0) ∙ l.invariant.1 in
    let f = c.if-try_line.false in (
      stays a.q a.words.now a.line.now l.k l.words c.try_line.new.words l.invariant.0 m (omega arith) l.invariant.2
          c.try_line.ensures.value c.try_line.ensures.words_after f,
      omega arith,
      goes_on a.q a.words.now a.line.now l.k l.words c.try_line.new.words l.invariant.0 m (omega arith)
          l.invariant.2
          c.try_line.ensures.value c.try_line.ensures.words_after f c.is_tally.ensures c.if-not-is_tally.false,
    )

pub returns-then-not-is_tally : goal.returns-then-not-is_tally
returns-then-not-is_tally c =
    let l = c.loop-k in let a = c.args in record {
      value = (takes_none a.q a.words.now a.line.now l.k l.words c.try_line.new.words l.invariant.0
          (sym (ap length l.invariant.0) ∙ l.invariant.1) (omega arith) l.invariant.2 c.try_line.ensures.value c.try_line.ensures.words_after
          c.if-try_line.false c.is_tally.ensures c.if-not-is_tally.true).0;
      words_after = (takes_none a.q a.words.now a.line.now l.k l.words c.try_line.new.words l.invariant.0
          (sym (ap length l.invariant.0) ∙ l.invariant.1) (omega arith) l.invariant.2 c.try_line.ensures.value c.try_line.ensures.words_after
          c.if-try_line.false c.is_tally.ensures c.if-not-is_tally.true).1;
    }

pub returns : goal.returns
returns c =
    let l = c.loop-k in let a = c.args in record {
      value = (takes_bad a.q a.words.now a.line.now l.words l.invariant.0
          (take_spent a.q a.words.now a.line.now l.k (sym (ap length l.invariant.0) ∙ l.invariant.1) l.invariant.2 (omega arith))).0;
      words_after = (takes_bad a.q a.words.now a.line.now l.words l.invariant.0
          (take_spent a.q a.words.now a.line.now l.k (sym (ap length l.invariant.0) ∙ l.invariant.1) l.invariant.2 (omega arith))).1;
    }
