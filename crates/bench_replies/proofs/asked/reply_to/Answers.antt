-- `reply_to` meets its contract: the flag says which. Assumes nothing.
use Rattle.std.proofs.Common.{sym}
use Rattle.bench_replies.specs.Replies.{reply_of}
use Rattle.bench_replies.proofs.asked.reply_to.Goals as goal

pub returns-then-decays : goal.returns-then-decays
unfolding reply_of
returns-then-decays c =
    rw (c.if-decays.true, sym c.peaks_of.ensures) c.peaks_reply.ensures

pub returns : goal.returns
unfolding reply_of
returns c =
    rw (c.if-decays.false, sym c.knee_of.ensures) c.knee_reply.ensures
