-- Answers.
use native.Mathlib.Omega.{arith}
use Rattle.report_words.proofs.Steps.{stands_other, stands_low, stands_last}
use Rattle.report_words.proofs.place.stands.Goals as goal

pub returns-then-length-ne-WORDS : goal.returns-then-length-ne-WORDS
returns-then-length-ne-WORDS c =
    let a = c.args in stands_other a.length a.function (λ e. omega arith)

pub returns-then-function-lt1 : goal.returns-then-function-lt1
returns-then-function-lt1 c =
    let a = c.args in stands_low a.length a.function (omega arith) (omega arith)

pub returns : goal.returns
returns c =
    let a = c.args in stands_last a.length a.function (omega arith) (omega arith)
