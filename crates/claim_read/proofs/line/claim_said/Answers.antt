-- `claim_said` meets its contract: its cases are those of the definition. Assumes nothing.
use mathlib.Core.Path.{sym, ◌∙◌}
use Rattle.claim_read.specs.StepLaws.{field_size, value_there, value_none}
use Rattle.claim_read.proofs.line.claim_said.Goals as goal

pub slice_bounds-value-end : goal.slice_bounds-value-end
slice_bounds-value-end c =
    field_size _ _ c.field_length-n.ensures

pub returns-in-Some : goal.returns-in-Some
returns-in-Some c =
    value_there _ _ c.field_length-n.ensures _ (sym c.value.ensures ∙ c.in-Some.is)

pub returns-in-None : goal.returns-in-None
returns-in-None c =
    c.refusal_said.ensures
    ∙ value_none _ _ c.field_length-n.ensures (sym c.value.ensures ∙ c.in-None.is)
