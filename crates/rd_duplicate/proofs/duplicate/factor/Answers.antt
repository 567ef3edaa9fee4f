-- `factor` meets its contract, step by step as its definition. Assumes nothing.
use mathlib.Core.Path.{sym}
use Rattle.rd_duplicate.specs.Duplicate.{rd_factor}
use Rattle.rd_duplicate.proofs.duplicate.factor.Goals as goal

pub returns : goal.returns
unfolding rd_factor
returns c =
    rw (sym c.third_kind.ensures)
