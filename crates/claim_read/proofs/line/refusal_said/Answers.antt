-- `refusal_said` meets its contract: its tests are those of the definition, in its order. Assumes nothing.
use mathlib.Core.Path.{sym, ◌∙◌}
use Rattle.claim_read.specs.StepLaws.{field_size, refusal_there, refusal_none}
use Rattle.claim_read.proofs.line.refusal_said.Goals as goal

pub slice_bounds-is_name-end : goal.slice_bounds-is_name-end
slice_bounds-is_name-end c =
    field_size _ _ c.field_length-n.ensures

pub slice_bounds-count-end : goal.slice_bounds-count-end
slice_bounds-count-end c =
    field_size _ _ c.field_length-m.ensures

pub returns-then-is_name : goal.returns-then-is_name
returns-then-is_name c =
    let named = sym c.is_name.ensures ∙ c.if-is_name.true in
    rw (c.count_claim.ensures, c.count.ensures)
    (refusal_there _ _ c.field_length-n.ensures _ _ named c.rest-after.ensures c.field_length-m.ensures)

pub returns : goal.returns
returns c =
    c.none.ensures ∙ refusal_none _ _ c.field_length-n.ensures (sym c.is_name.ensures ∙ c.if-is_name.false)
