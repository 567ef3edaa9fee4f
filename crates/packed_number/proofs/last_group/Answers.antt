-- `last_group` meets its contract, test by test as its definition. Assumes nothing.
use borrow.Author.Tests.{eq-eqb, ne_eqb, lt-ltb, le-ltb}
use Rattle.packed_number.specs.Numbers.{last_group}
use Rattle.packed_number.proofs.last_group.Goals as goal

pub returns-then-weight-gt1 : goal.returns-then-weight-gt1
unfolding last_group
returns-then-weight-gt1 c =
    rw (eq-eqb _ 0 c.if-group-eq0.true, lt-ltb 1 _ c.if-weight-gt1.true)

pub returns-then-group-eq0 : goal.returns-then-group-eq0
unfolding last_group
returns-then-group-eq0 c =
    rw (eq-eqb _ 0 c.if-group-eq0.true, le-ltb 1 _ c.if-weight-gt1.false)

pub returns : goal.returns
unfolding last_group
returns c =
    rw (ne_eqb _ 0 c.if-group-eq0.false)
