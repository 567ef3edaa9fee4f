-- `rd_begin` meets its contract, step by step as its definition. Assumes nothing.
use mathlib.Core.Path.{sym}
use Rattle.rg_joint.specs.Joint.{rd_begun}
use Rattle.rg_joint.proofs.joint.rd_begin.Goals as goal

pub returns : goal.returns
unfolding rd_begun
returns c =
    rw (sym c.mean_of-an.ensures, sym c.start_of.ensures, sym c.not_a_number.ensures)
