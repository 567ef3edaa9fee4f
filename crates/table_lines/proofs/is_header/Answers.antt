-- `is_header` meets its contract. Assumes nothing.
use mathlib.Core.Path.{sym, ◌∙◌}
use Rattle.table_lines.specs.Lines.{is_header}
use Rattle.table_lines.proofs.is_header.Goals as goal

pub returns-then-is_name : goal.returns-then-is_name
unfolding is_header
returns-then-is_name c =
    rw (sym c.is_name.ensures ∙ c.if-is_name.true)

pub returns : goal.returns
unfolding is_header
returns c =
    rw (sym c.is_name.ensures ∙ c.if-is_name.false) c.is_name-2.ensures
