-- Answers.
use mathlib.Core.Path.{refl, ◌∙◌}
use native.Mathlib.Omega.{arith}
use Rattle.report_words.proofs.Steps.{joined_not, joined_nor, joined_all, joined_on}
use Rattle.report_words.proofs.join.join_words.Goals as goal

pub returns-then-report-ne-WORDS : goal.returns-then-report-ne-WORDS
returns-then-report-ne-WORDS c =
    let a = c.args in joined_not a.report.now a.other.now (λ e. omega arith)

pub returns-then-other-ne-WORDS : goal.returns-then-other-ne-WORDS
returns-then-other-ne-WORDS c =
    let a = c.args in joined_nor a.report.now a.other.now (omega arith)
    (λ e. omega arith)

pub loop-k-init : goal.loop-k-init
loop-k-init c =
    (omega arith, omega arith, refl)

pub loop-k-preserved : goal.loop-k-preserved
loop-k-preserved c =
    let o = c.args.other.now in (
      omega arith,
      c.loop-k.invariant.1,
      joined_on c.loop-k.k c.loop-k.report o c.join_blocks.new.block (omega arith)
          c.join_blocks.ensures ∙ c.loop-k.invariant.2,
    )

pub returns : goal.returns
returns c =
    joined_all c.loop-k.k _ c.loop-k.report _ (omega arith) (omega arith) (omega arith) (omega arith) c.loop-k.invariant.2
