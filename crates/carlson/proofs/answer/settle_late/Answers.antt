-- `settle_late` meets its contract, step by step as its definition. Assumes nothing.
use Rattle.std.proofs.Common.{sym, ◌∙◌}
use Rattle.carlson.specs.Answer.{infinite_at, settled_told}
use Rattle.carlson.proofs.answer.settle_late.Goals as goal

pub returns-then-is_finite : goal.returns-then-is_finite
unfolding settled_told
returns-then-is_finite g c =
    rw (sym c.is_finite.ensures ∙ c.if-is_finite.true)

pub returns-then-nan : goal.returns-then-nan
unfolding settled_told
returns-then-nan g c =
    rw (sym c.is_finite.ensures ∙ c.if-is_finite.false, c.if-nan.true, c.of.ensures)

pub returns-then-unbounded : goal.returns-then-unbounded
unfolding settled_told infinite_at
returns-then-unbounded g c =
    rw (
      sym c.is_finite.ensures ∙ c.if-is_finite.false,
      c.if-nan.false,
      c.if-unbounded.true,
      c.infinite_found.ensures,
    )

pub returns : goal.returns
unfolding settled_told
returns g c =
    rw (
      sym c.is_finite.ensures ∙ c.if-is_finite.false,
      c.if-nan.false,
      c.if-unbounded.false,
    )
