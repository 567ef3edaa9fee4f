-- `step` meets its contract, step by step as its definition. Assumes nothing.
use mathlib.Core.Path.{sym}
use Rattle.rd_duplicate.specs.Duplicate.{rd_step}
use Rattle.rd_duplicate.proofs.duplicate.step.Goals as goal

pub returns : goal.returns
unfolding rd_step
returns c =
    rw (
      sym c.sqrt.ensures,
      sym c.sqrt-2.ensures,
      sym c.sqrt-3.ensures,
      sym c.lambda_with.ensures,
      sym c.moved.ensures,
    )
