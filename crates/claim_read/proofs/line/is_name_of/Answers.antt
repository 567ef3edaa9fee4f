-- `is_name_of` meets its contract, test by test as the name's definition. Assumes nothing.
use mathlib.Core.Path.{sym}
use borrow.Author.Tests.{eq-eqb, ne_eqb}
use Rattle.unpack_stream.specs.Text.{name_text}
use Rattle.claim_read.proofs.line.is_name_of.Goals as goal

pub returns-then-function-eq6 : goal.returns-then-function-eq6
unfolding name_text
returns-then-function-eq6 c =
    rw (eq-eqb _ 6 c.if-function-eq6.true) c.is_name.ensures

pub returns : goal.returns
unfolding name_text
returns c =
    rw (ne_eqb _ 6 c.if-function-eq6.false, sym c.letter.ensures) c.is_name-2.ensures
