-- `general` meets its contract: its tests are those of the definition, in its order. Assumes nothing.
use Rattle.std.proofs.Common.{Ok}
use mathlib.Core.Path.{ap}
use Rattle.elliprd.specs.Rd.{rd_general}
use Rattle.elliprd.proofs.general.Goals as goal

pub returns-then-y-z : goal.returns-then-y-z
unfolding rd_general
returns-then-y-z c =
    rw (c.if-x.true, c.if-y-z.true) c.agm_of-a.ensures

pub returns-then-x : goal.returns-then-x
unfolding rd_general
returns-then-x c =
    rw (c.if-x.true, c.if-y-z.false) (ap Ok c.duplicated-found.ensures)

pub returns : goal.returns
unfolding rd_general
returns c =
    rw c.if-x.false (ap Ok c.duplicated-found-2.ensures)
