-- `general` meets its contract: its tests are those of the definition, in its order. Assumes nothing.
use Rattle.elliprf.specs.Rf.{rf_general}
use Rattle.elliprf.proofs.general.Goals as goal

pub returns-then-x : goal.returns-then-x
unfolding rf_general
returns-then-x c =
    rw c.if-x.true c.agm_of.ensures

pub returns-then-y : goal.returns-then-y
unfolding rf_general
returns-then-y c =
    rw (c.if-x.false, c.if-y.true) c.agm_of-then-y.ensures

pub returns-then-z : goal.returns-then-z
unfolding rf_general
returns-then-z c =
    rw (c.if-x.false, c.if-y.false, c.if-z.true) c.agm_of-then-z.ensures

pub returns : goal.returns
unfolding rf_general
returns c =
    rw (c.if-x.false, c.if-y.false, c.if-z.false) c.duplicated.ensures
