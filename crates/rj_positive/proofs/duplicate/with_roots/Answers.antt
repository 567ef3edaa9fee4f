-- `with_roots` meets its contract, step by step as its definition. Assumes nothing.
use mathlib.Core.Path.{sym}
use Rattle.rj_positive.specs.Duplicate.{rj_with}
use Rattle.rj_positive.proofs.duplicate.with_roots.Goals as goal

pub returns : goal.returns
unfolding rj_with
returns c =
    rw (
      sym c.denominator-dn.ensures,
      sym c.ratio.ensures,
      sym c.term-rc.ensures,
      sym c.lambda_with.ensures,
      sym c.rescalings_with.ensures,
    ) c.moved.ensures
