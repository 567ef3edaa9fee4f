-- `signed` meets its contract: its tests are those of the definition, in its order. Assumes nothing.
use mathlib.Core.Path.{sym, ◌∙◌}
use Rattle.elliprj.specs.Rj.{rj_signed}
use Rattle.elliprj.proofs.signed.Goals as goal

pub returns-then-any_nan4 : goal.returns-then-any_nan4
unfolding rj_signed
returns-then-any_nan4 c =
    rw (sym c.any_nan4.ensures ∙ c.if-any_nan4.true)

pub returns-then-p : goal.returns-then-p
unfolding rj_signed
returns-then-p c =
    rw (sym c.any_nan4.ensures ∙ c.if-any_nan4.false, c.if-p.true)

pub returns-then-wrong : goal.returns-then-wrong
unfolding rj_signed
returns-then-wrong c =
    rw (
      sym c.any_nan4.ensures ∙ c.if-any_nan4.false,
      c.if-p.false,
      c.if-wrong.true,
    )

pub returns : goal.returns
unfolding rj_signed
returns c =
    rw (
      sym c.any_nan4.ensures ∙ c.if-any_nan4.false,
      c.if-p.false,
      c.if-wrong.false,
    ) c.rest.ensures
