-- `more` meets its contract, step by step as its definition. Assumes nothing.
use Rattle.bench_replies.specs.Replies.{more_of}
use Rattle.bench_replies.proofs.counts.more.Goals as goal

pub returns-then-one : goal.returns-then-one
unfolding more_of
returns-then-one c =
    rw c.if-one.true c.wrapping_add_u64.ensures.value

pub returns : goal.returns
unfolding more_of
returns c =
    rw c.if-one.false
