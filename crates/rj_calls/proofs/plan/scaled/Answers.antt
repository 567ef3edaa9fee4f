-- `scaled` meets its contract: its tests are those of the definition, in its order. Assumes nothing.
use mathlib.Core.Path.{sym, ◌∙◌}
use Rattle.rj_calls.specs.Run.{plan_scaled}
use Rattle.rj_calls.proofs.plan.scaled.Goals as goal

pub returns-then-rescales4 : goal.returns-then-rescales4
unfolding plan_scaled
returns-then-rescales4 c =
    rw (sym c.scale4-scale.ensures, sym c.rescales4.ensures ∙ c.if-rescales4.true)

pub returns : goal.returns
unfolding plan_scaled
returns c =
    rw (
      sym c.scale4-scale.ensures,
      sym c.rescales4.ensures
          ∙ c.if-rescales4.false,
    )
    c.unscaled.ensures
