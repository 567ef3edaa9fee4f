-- `together` meets its contract, step by step as its definition. Assumes nothing.
use mathlib.Core.Path.{sym}
use Rattle.rj_negative.specs.Reduction.{wrapped_found}
use Rattle.rj_negative.proofs.reduction.together.Goals as goal

pub returns : goal.returns
unfolding wrapped_found
returns c =
    rw (
      sym c.both_ways.ensures,
      sym c.both_ways-way.ensures,
      sym c.value_of.ensures,
    ) c.reduction.ensures
