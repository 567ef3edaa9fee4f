-- `part_of` meets its contract: the last is the end. Assumes nothing.
use borrow.Author.Tests.{eq-eqb, ne_eqb}
use Rattle.spoken_parts.specs.Parts.{part_of}
use Rattle.spoken_parts.proofs.parts.part_of.Goals as goal

pub returns-then-i : goal.returns-then-i
unfolding part_of
returns-then-i c =
    rw (eq-eqb _ _ c.if-i.true)

pub returns : goal.returns
unfolding part_of
returns c =
    rw (ne_eqb _ _ c.if-i.false) c.before_end.ensures
