-- `apart` meets its contract, step by step as its definition. Assumes nothing.
use mathlib.Core.Path.{sym}
use borrow.Author.Tests.{eq-eqb, ne_eqb, le-leb, lt-leb}
use Rattle.drag.specs.Verdict.{apart_of}
use Rattle.drag.proofs.nanoseconds.apart.Goals as goal

pub returns-then-time-ideal : goal.returns-then-time-ideal
unfolding apart_of
returns-then-time-ideal c =
    rw (le-leb _ _ c.if-time-ideal.true)

pub returns-then-ideal-eq0 : goal.returns-then-ideal-eq0
unfolding apart_of
returns-then-ideal-eq0 c =
    rw (lt-leb _ _ c.if-time-ideal.false, eq-eqb _ _ c.if-ideal-eq0.true)

pub returns : goal.returns
unfolding apart_of
returns c =
    rw (lt-leb _ _ c.if-time-ideal.false, ne_eqb _ _ c.if-ideal-eq0.false, sym c.other.ensures)
