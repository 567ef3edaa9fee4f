-- `elliprg` meets its contract: within the door no test of the definition says yes; else its tests are those of the definition,
-- in its order. Assumes nothing.
use mathlib.Core.Path.{◌≡◌, sym, ap, ◌∙◌}
use mathlib.Core.Bool.{true, false}
use lib.Ieee.{Float}
use Rattle.carlson.specs.Answer.{Answer}
use Rattle.carlson_arguments.specs.Door.{moderate3}
use Rattle.carlson_arguments.proofs.DoorLaws.{inside3, none_below3, no_nan3, unscaled3}
use Rattle.elliprg.specs.Rg.{rg_steps, times_root, rg_unchecked, rg_settled, rg}
use Rattle.elliprg.proofs.elliprg.Goals as goal

within : (x y z : Float) → moderate3 x y z ≡ true → rg_settled (rg_steps x y z) false ≡ rg x y z
unfolding rg rg_unchecked
within x y z h = let i = inside3 x y z h in rw (none_below3 i, no_nan3 i, unscaled3 i times_root rg_steps)

pub returns-then-moderate3 : goal.returns-then-moderate3
unfolding rg
returns-then-moderate3 c =
    let a = c.args in
    c.settled.ensures ∙ ap (λ (f : Answer). rg_settled f false) c.steps.ensures
    ∙ within a.x a.y a.z (sym c.moderate3.ensures ∙ c.if-moderate3.true)

pub returns-then-below3 : goal.returns-then-below3
unfolding rg
returns-then-below3 c =
    rw (sym c.below3.ensures ∙ c.if-below3.true)

pub returns : goal.returns
unfolding rg
returns c =
    rw (
      sym c.below3.ensures ∙ c.if-below3.false,
      sym c.elliprg_unchecked.ensures,
      sym c.any_nan3.ensures,
    ) c.settled-2.ensures
