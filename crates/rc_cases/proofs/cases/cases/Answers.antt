-- `cases` meets its contract: its tests are those of the definition, in its order. Assumes nothing.
use Rattle.rc_cases.specs.Cases.{rc_cases}
use Rattle.rc_cases.proofs.cases.cases.Goals as goal

pub returns-then-x : goal.returns-then-x
unfolding rc_cases
returns-then-x c =
    rw c.if-x.true c.at_zero.ensures

pub returns-then-x-y : goal.returns-then-x-y
unfolding rc_cases
returns-then-x-y c =
    rw (c.if-x.false, c.if-x-y.true) c.at_equal.ensures

pub returns-then-y-x : goal.returns-then-y-x
unfolding rc_cases
returns-then-y-x c =
    rw (c.if-x.false, c.if-x-y.false, c.if-y-x.true) c.by_atan.ensures

pub returns-then-y-x-2 : goal.returns-then-y-x-2
unfolding rc_cases
returns-then-y-x-2 c =
    rw (
      c.if-x.false,
      c.if-x-y.false,
      c.if-y-x.false,
      c.if-y-x-2.true,
    ) c.by_ln_1p.ensures

pub returns : goal.returns
unfolding rc_cases
returns c =
    rw (
      c.if-x.false,
      c.if-x-y.false,
      c.if-y-x.false,
      c.if-y-x-2.false,
    ) c.by_ln.ensures
