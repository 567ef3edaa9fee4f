-- `one_zero` meets its contract, step by step as its definition. Assumes nothing.
use mathlib.Core.Path.{sym}
use Rattle.elliprd.specs.Rd.{rd_zero}
use Rattle.elliprd.proofs.one_zero.Goals as goal

pub returns : goal.returns
unfolding rd_zero
returns c =
    rw (sym c.sqrt.ensures, sym c.closed.ensures)
