-- `counted` meets its contract, step by step as its definition. Assumes nothing.
use Rattle.std.proofs.Common.{sym}
use Rattle.bench_replies.specs.Replies.{counted_of}
use Rattle.bench_replies.proofs.counts.counted.Goals as goal

pub returns : goal.returns
unfolding counted_of
returns c =
    rw (sym c.more.ensures, sym c.more-2.ensures, sym c.more-3.ensures, sym c.more-4.ensures)
