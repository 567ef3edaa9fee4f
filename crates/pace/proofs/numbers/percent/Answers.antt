-- `percent` meets its contract: where not all is read, a hundred times that is a word. Assumes nothing.
use borrow.Author.Tests.{le-leb, lt-leb}
use Rattle.pace.specs.Numbers.{percent_of}
use Rattle.pace.proofs.numbers.percent.Goals as goal

pub returns-then-size-read : goal.returns-then-size-read
unfolding percent_of
returns-then-size-read c =
    rw (le-leb _ _ c.if-size-read.true)

pub returns-then-size-le-MOST : goal.returns-then-size-le-MOST
unfolding percent_of
returns-then-size-le-MOST c =
    rw (lt-leb _ _ c.if-size-read.false, le-leb _ _ c.if-size-le-MOST.true)

pub returns : goal.returns
unfolding percent_of
returns c =
    rw (lt-leb _ _ c.if-size-read.false, lt-leb _ _ c.if-size-le-MOST.false)
