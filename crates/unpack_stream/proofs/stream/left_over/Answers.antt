-- `left_over_lem` meets its contract. Assumes nothing.
use borrow.Author.Tests.{eq-eqb, ne_eqb}
use Rattle.unpack_stream.specs.Unpack.{left_over}
use Rattle.unpack_stream.proofs.stream.left_over.Goals as goal

pub returns-then-n-eq0 : goal.returns-then-n-eq0
unfolding left_over
returns-then-n-eq0 c =
    rw (eq-eqb _ 0 c.if-n-eq0.true)

pub returns : goal.returns
unfolding left_over
returns c =
    rw (ne_eqb _ 0 c.if-n-eq0.false)
