-- `ahead` meets its contract. Assumes nothing.
use borrow.Author.Tests.{eq-eqb, ne_eqb}
use Rattle.unpack_stream.specs.Unpack.{ahead_at}
use Rattle.unpack_stream.proofs.stream.ahead.Goals as goal

pub returns-then-n-eq0 : goal.returns-then-n-eq0
unfolding ahead_at
returns-then-n-eq0 c =
    rw (eq-eqb _ 0 c.if-n-eq0.true) c.read_job.ensures

pub returns : goal.returns
unfolding ahead_at
returns c =
    rw (ne_eqb _ 0 c.if-n-eq0.false)
