-- `settled` meets its contract, its test is the definition's: what was found, put together of its fields, is the same. Assumes
-- nothing.
use mathlib.Core.Path.{sym, ◌∙◌}
use Rattle.carlson.proofs.AnswerLaws.{handed_itself}
use Rattle.cel.specs.Cel.{cel_settled}
use Rattle.cel.proofs.settled.Goals as goal

pub returns-then-is_finite : goal.returns-then-is_finite
unfolding cel_settled
returns-then-is_finite c =
    rw (sym c.is_finite.ensures ∙ c.if-is_finite.true, c.handed.ensures ∙ handed_itself _)

pub returns : goal.returns
unfolding cel_settled
returns c =
    rw (sym c.is_finite.ensures ∙ c.if-is_finite.false) c.unsettled.ensures
