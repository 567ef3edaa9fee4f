-- `steps` meets its contract: its tests are those of the definition, in its order. Assumes nothing.
use Rattle.elliprf.specs.Rf.{rf_steps}
use Rattle.elliprf.proofs.steps.Goals as goal

pub returns-then-x-z : goal.returns-then-x-z
unfolding rf_steps
returns-then-x-z c =
    rw (c.if-x-y.true, c.if-x-z.true) c.all_equal.ensures

pub returns-then-z : goal.returns-then-z
unfolding rf_steps
returns-then-z c =
    rw (c.if-x-y.true, c.if-x-z.false, c.if-z.true) c.one_zero.ensures

pub returns-then-x-y : goal.returns-then-x-y
unfolding rf_steps
returns-then-x-y c =
    rw (c.if-x-y.true, c.if-x-z.false, c.if-z.false) c.two_equal.ensures

pub returns-then-y : goal.returns-then-y
unfolding rf_steps
returns-then-y c =
    rw (c.if-x-y.false, c.if-x-z-2.true, c.if-y.true) c.one_zero-then-y.ensures

pub returns-then-x-z-2 : goal.returns-then-x-z-2
unfolding rf_steps
returns-then-x-z-2 c =
    rw (c.if-x-y.false, c.if-x-z-2.true, c.if-y.false) c.two_equal-then-x-z-2.ensures

pub returns-then-x : goal.returns-then-x
unfolding rf_steps
returns-then-x c =
    rw (
      c.if-x-y.false,
      c.if-x-z-2.false,
      c.if-y-z.true,
      c.if-x.true,
    ) c.one_zero-then-x.ensures

pub returns-then-y-z : goal.returns-then-y-z
unfolding rf_steps
returns-then-y-z c =
    rw (
      c.if-x-y.false,
      c.if-x-z-2.false,
      c.if-y-z.true,
      c.if-x.false,
    ) c.two_equal-then-y-z.ensures

pub returns : goal.returns
unfolding rf_steps
returns c =
    rw (c.if-x-y.false, c.if-x-z-2.false, c.if-y-z.false) c.general.ensures
