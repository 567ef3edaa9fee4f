-- `all_equal` meets its contract, step by step as its definition. Assumes nothing.
use mathlib.Core.Path.{sym}
use Rattle.elliprd.specs.Rd.{rd_equal}
use Rattle.elliprd.proofs.all_equal.Goals as goal

pub returns : goal.returns
unfolding rd_equal
returns c =
    rw (sym c.sqrt.ensures, sym c.closed.ensures)
