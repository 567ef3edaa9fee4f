-- `settle` meets its contract, step by step as its definition. Assumes nothing.
use Rattle.std.proofs.Common.{sym, ◌∙◌}
use Rattle.carlson.specs.Answer.{settled}
use Rattle.carlson.proofs.answer.settle.Goals as goal

pub returns-then-is_finite : goal.returns-then-is_finite
unfolding settled
returns-then-is_finite g c =
    rw (sym c.is_finite.ensures ∙ c.if-is_finite.true)

pub returns : goal.returns
unfolding settled
returns g c =
    rw (sym c.is_finite.ensures ∙ c.if-is_finite.false)
