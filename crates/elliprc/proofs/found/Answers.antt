-- `found` meets its contract, step by step as its definition. Assumes nothing.
use mathlib.Core.Path.{sym}
use Rattle.elliprc.specs.Rc.{rc_found}
use Rattle.elliprc.proofs.found.Goals as goal

pub returns : goal.returns
unfolding rc_found
returns c =
    rw (sym c.steps.ensures, sym c.closed.ensures)
