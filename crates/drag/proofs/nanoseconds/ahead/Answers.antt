-- `ahead` meets its contract, step by step as its definition. Assumes nothing.
use borrow.Author.Tests.{eq-eqb, ne_eqb, lt-ltb, le-ltb}
use Rattle.drag.specs.Verdict.{ahead_of}
use Rattle.drag.proofs.nanoseconds.ahead.Goals as goal

pub returns-then-time-ideal : goal.returns-then-time-ideal
unfolding ahead_of
returns-then-time-ideal c =
    rw (lt-ltb _ _ c.if-time-ideal.true)

pub returns-then-time-ideal-2 : goal.returns-then-time-ideal-2
unfolding ahead_of
returns-then-time-ideal-2 c =
    rw (le-ltb _ _ c.if-time-ideal.false, eq-eqb _ _ c.if-time-ideal-2.true)

pub returns : goal.returns
unfolding ahead_of
returns c =
    rw (le-ltb _ _ c.if-time-ideal.false, ne_eqb _ _ c.if-time-ideal-2.false)
