-- `checked` meets its contract: within the door no test of the definition says yes; else its tests are those of the definition,
-- in its order. Assumes nothing.
use Rattle.refusals.specs.declared.Refusal.TheVariants.{RcNoResult}
use mathlib.Core.Path.{sym, ap, ◌∙◌}
use Rattle.carlson.specs.Answer.{settled}
use Rattle.carlson.specs.declared.answer.Found.{Found}
use Rattle.elliprc.specs.Rc.{rc}
use Rattle.elliprc.proofs.Within.{within}
use Rattle.elliprc.proofs.checked.Goals as goal

pub returns-then-moderate2 : goal.returns-then-moderate2
unfolding rc
returns-then-moderate2 c =
    let a = c.args in
    c.settle.ensures ∙ ap (λ (f : Found). settled f RcNoResult) c.found.ensures
    ∙ within a.x a.y (sym c.moderate2.ensures ∙ c.if-moderate2.true)

pub returns-then-x : goal.returns-then-x
unfolding rc
returns-then-x c =
    rw c.if-x.true

pub returns-then-y : goal.returns-then-y
unfolding rc
returns-then-y c =
    rw (c.if-x.false, c.if-y.true)

pub returns : goal.returns
unfolding rc
returns c =
    rw (
      c.if-x.false,
      c.if-y.false,
      sym c.elliprc_unchecked.ensures,
      sym c.any_nan2.ensures,
      sym c.any_infinite2.ensures,
    ) c.settle_late.ensures
