-- `tiny` meets its contract. Assumes nothing.
use Rattle.std.proofs.Common.{eq-eqb, ne_eqb}
use Rattle.parted.specs.Parts.{tiny_of}
use Rattle.parted.proofs.size.tiny.Goals as goal

pub returns-then-size-eq0 : goal.returns-then-size-eq0
unfolding tiny_of
returns-then-size-eq0 c =
    rw (eq-eqb _ _ c.if-size-eq0.true)

pub returns : goal.returns
unfolding tiny_of
returns c =
    rw (ne_eqb _ _ c.if-size-eq0.false)
