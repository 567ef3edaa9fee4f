-- `rj_by_sign` meets its contract: on its own sign each entry is RJ. Assumes nothing.
use mathlib.Core.Path.{◌∙◌}
use Rattle.sorting.specs.Order.{lt_once}
use Rattle.elliprj.proofs.Halves.{rj_positive_is, rj_negative_is}
use Rattle.answers.proofs.rj_by_sign.Goals as goal

pub returns-then-p : goal.returns-then-p
returns-then-p c =
    c.elliprj_negative.ensures ∙ rj_negative_is _ _ _ _ (lt_once _ _ c.if-p.true)

pub returns : goal.returns
returns c =
    c.elliprj_positive.ensures ∙ rj_positive_is _ _ _ _ c.if-p.false
