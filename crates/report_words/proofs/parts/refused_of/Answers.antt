-- Answers.
use mathlib.Core.Path.{◌∙◌}
use native.Mathlib.Omega.{arith}
use Rattle.report_words.proofs.Steps.{refused_low, refused_past, refused_there}
use Rattle.report_words.proofs.parts.refused_of.Goals as goal

pub returns-then-number-lt-FIRST : goal.returns-then-number-lt-FIRST
returns-then-number-lt-FIRST c =
    let a = c.args in refused_low a.report.now a.function a.number (omega arith)

pub returns-then-number-gt-LAST : goal.returns-then-number-gt-LAST
returns-then-number-gt-LAST c =
    let a = c.args in refused_past a.report.now a.function a.number (omega arith)
    (omega arith)

pub returns : goal.returns
returns c =
    let a = c.args in c.word_at.ensures
    ∙ refused_there a.report.now a.function a.number (omega arith) (omega arith)
