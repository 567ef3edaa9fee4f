-- `elliprg_unchecked` meets its contract: its test is the definition's. Assumes nothing.
use mathlib.Core.Path.{sym, ◌∙◌}
use Rattle.carlson_arguments.specs.Rescaling.{rescaling3}
use Rattle.elliprg.specs.Rg.{rg_unchecked}
use Rattle.elliprg.proofs.elliprg_unchecked.Goals as goal

pub returns-then-rescales3 : goal.returns-then-rescales3
unfolding rg_unchecked rescaling3
returns-then-rescales3 c =
    rw (
      sym c.scale3-scale.ensures,
      sym c.rescales3.ensures ∙ c.if-rescales3.true,
      sym c.steps.ensures,
    ) c.times_root.ensures

pub returns : goal.returns
unfolding rg_unchecked rescaling3
returns c =
    rw (
      sym c.scale3-scale.ensures,
      sym c.rescales3.ensures
          ∙ c.if-rescales3.false,
    )
    c.steps-2.ensures
