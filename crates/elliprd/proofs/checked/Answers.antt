-- `checked` meets its contract: within the door no test of the definition says yes; else its tests are those of the definition,
-- in its order. Assumes nothing.
use mathlib.Core.Path.{sym, ap, ◌∙◌}
use mathlib.Core.Bool.{false}
use Rattle.carlson.specs.Answer.{Answer}
use Rattle.elliprd.specs.Rd.{rd_settled, rd}
use Rattle.elliprd.proofs.Within.{within}
use Rattle.elliprd.proofs.checked.Goals as goal

pub returns-then-moderate3 : goal.returns-then-moderate3
unfolding rd
returns-then-moderate3 c =
    let a = c.args in
    c.settled-a.ensures ∙ ap (λ (f : Answer). rd_settled f false false) c.steps.ensures
    ∙ within a.x a.y a.z (sym c.moderate3.ensures ∙ c.if-moderate3.true)
