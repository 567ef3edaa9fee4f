-- `rate` meets its contract, test by test. Assumes nothing.
use mathlib.Core.Path.{sym}
use borrow.Author.Tests.{le-leb, lt-leb}
use Rattle.pace.specs.Numbers.{rate_of}
use Rattle.pace.proofs.numbers.rate.Goals as goal

pub returns-then-now-then : goal.returns-then-now-then
unfolding rate_of
returns-then-now-then c =
    rw (le-leb _ _ c.if-now-then.true) c.since.ensures

pub returns : goal.returns
unfolding rate_of
returns c =
    rw (lt-leb _ _ c.if-now-then.false, sym c.since-2.ensures)
