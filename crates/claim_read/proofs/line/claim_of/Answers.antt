-- `claim_of` meets its contract: its test is that of the definition. Assumes nothing.
use mathlib.Core.Path.{sym, ◌∙◌}
use Rattle.claim_read.specs.StepLaws.{field_size, name_there, name_none}
use Rattle.claim_read.proofs.line.claim_of.Goals as goal

pub slice_bounds-is_name_of-end : goal.slice_bounds-is_name_of-end
slice_bounds-is_name_of-end c =
    field_size _ _ c.field_length-n.ensures

pub returns-then-is_name_of : goal.returns-then-is_name_of
returns-then-is_name_of c =
    let named = sym c.is_name_of.ensures ∙ c.if-is_name_of.true in
    c.claim_said.ensures ∙ name_there _ _ c.field_length-n.ensures _ _ named c.rest-text.ensures

pub returns : goal.returns
returns c =
    c.none.ensures ∙ name_none _ _ c.field_length-n.ensures _ (sym c.is_name_of.ensures ∙ c.if-is_name_of.false)
