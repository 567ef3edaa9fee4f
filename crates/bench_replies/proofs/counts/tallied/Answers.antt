-- `tallied` meets its contract, step by step as its definition. Assumes nothing.
use Rattle.std.proofs.Common.{sym}
use Rattle.bench_replies.specs.Replies.{tallied_of}
use Rattle.bench_replies.proofs.counts.tallied.Goals as goal

pub returns : goal.returns
unfolding tallied_of
returns c =
    rw (sym c.kind.ensures) c.counted.ensures
