-- `kind` meets its contract, case by case. Assumes nothing.
use Rattle.bench_replies.specs.Replies.{kind_of}
use Rattle.bench_replies.proofs.counts.kind.Goals as goal

pub returns-then-verdict : goal.returns-then-verdict
unfolding kind_of
returns-then-verdict c =
    rw (c.in-Weighed.is, c.if-verdict.true)

pub returns-else-verdict : goal.returns-else-verdict
unfolding kind_of
returns-else-verdict c =
    rw (c.in-Weighed.is, c.if-verdict.false)

pub returns-in-NoVerdict : goal.returns-in-NoVerdict
unfolding kind_of
returns-in-NoVerdict c =
    rw c.in-NoVerdict.is

pub returns-in-Decrement : goal.returns-in-Decrement
unfolding kind_of
returns-in-Decrement c =
    rw c.in-Decrement.is

pub returns-in-NoDecrement : goal.returns-in-NoDecrement
unfolding kind_of
returns-in-NoDecrement c =
    rw c.in-NoDecrement.is

pub returns-in-Bad : goal.returns-in-Bad
unfolding kind_of
returns-in-Bad c =
    rw c.in-Bad.is

pub returns-in-Tallies : goal.returns-in-Tallies
unfolding kind_of
returns-in-Tallies c =
    rw c.in-Tallies.is
