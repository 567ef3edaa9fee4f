-- `elliprc` meets its contract: two moderate arguments take the closed forms, and no check comes before; all others are checked.
-- Assumes nothing.
use Rattle.refusals.specs.declared.Refusal.TheVariants.{RcNoResult}
use mathlib.Core.Path.{sym, ap, ◌∙◌}
use Rattle.carlson.specs.declared.answer.Found.{Found}
use Rattle.carlson.specs.Answer.{settled}
use Rattle.elliprc.proofs.Within.{above}
use Rattle.elliprc.proofs.elliprc.Goals as goal

pub returns-then-moderate-2 : goal.returns-then-moderate-2
returns-then-moderate-2 c =
    c.settle.ensures ∙ ap (λ (f : Found). settled f RcNoResult) c.closed.ensures
    ∙ above _ _ _ (sym c.moderate.ensures ∙ c.if-moderate.true)
    (sym c.moderate-then-moderate.ensures ∙ c.if-moderate-2.true) c.cases.ensures
