-- `read` meets its contract: its tests are those of the definition, in its order. Assumes nothing.
use mathlib.Core.Path.{sym, ap, ◌∙◌}
use lib.Ieee.{of_bits}
use Rattle.std.proofs.Common.{Ok}
use Rattle.decimal_read.specs.Read.{read_of}
use Rattle.decimal_read.proofs.read.Goals as goal

pub returns-then-is_name : goal.returns-then-is_name
unfolding read_of of_bits
returns-then-is_name c =
    rw (sym c.is_name.ensures ∙ c.if-is_name.true) (ap Ok c.join.ensures)

pub returns-then-is_name-2 : goal.returns-then-is_name-2
unfolding read_of of_bits
returns-then-is_name-2 c =
    rw (sym c.is_name.ensures ∙ c.if-is_name.false, sym c.is_name-2.ensures ∙ c.if-is_name-2.true)
    (ap Ok c.join-then-is_name-2.ensures)

pub returns-then-is_name-3 : goal.returns-then-is_name-3
unfolding read_of of_bits
returns-then-is_name-3 c =
    rw (
      sym c.is_name.ensures ∙ c.if-is_name.false,
      sym c.is_name-2.ensures ∙ c.if-is_name-2.false,
      sym c.is_name-3.ensures ∙ c.if-is_name-3.true,
    )
    (ap Ok c.join-then-is_name-3.ensures)

pub returns : goal.returns
unfolding read_of
returns c =
    rw (
      sym c.is_name.ensures ∙ c.if-is_name.false,
      sym c.is_name-2.ensures ∙ c.if-is_name-2.false,
      sym c.is_name-3.ensures ∙ c.if-is_name-3.false,
    )
    c.number.ensures
