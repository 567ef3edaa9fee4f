-- `over_root_lem` meets its contract, step by step as its definition. Assumes nothing.
use mathlib.Core.Path.{sym}
use Rattle.elliprc.specs.Rc.{over_root}
use Rattle.elliprc.proofs.over_root.Goals as goal

pub returns : goal.returns
unfolding over_root
returns c =
    rw (sym c.sqrt.ensures, sym c.rescaled.ensures)
