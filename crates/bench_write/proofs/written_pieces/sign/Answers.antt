-- `sign` meets its contract: the flag says which. Assumes nothing.
use Rattle.bench_write.specs.Texts.{sign_of}
use Rattle.bench_write.proofs.written_pieces.sign.Goals as goal

pub returns-then-quicker : goal.returns-then-quicker
unfolding sign_of
returns-then-quicker c =
    rw c.if-quicker.true

pub returns : goal.returns
unfolding sign_of
returns c =
    rw c.if-quicker.false
