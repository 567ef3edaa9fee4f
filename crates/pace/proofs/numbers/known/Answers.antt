-- `known` meets its contract, test by test. Assumes nothing.
use borrow.Author.Tests.{eq-eqb, ne_eqb}
use Rattle.pace.specs.Numbers.{known_of}
use Rattle.pace.proofs.numbers.known.Goals as goal

pub returns-then-size-eq0 : goal.returns-then-size-eq0
unfolding known_of
returns-then-size-eq0 c =
    rw (eq-eqb _ _ c.if-size-eq0.true)

pub returns : goal.returns
unfolding known_of
returns c =
    rw (ne_eqb _ _ c.if-size-eq0.false)
