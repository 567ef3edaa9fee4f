-- `root::sqrt_ahead` meets its contract: `certain` has tested the guess, or `sqrt` has the root. Assumes nothing.
use Rattle.std.proofs.Common.{sym, ◌∙◌}
use Rattle.root.proofs.TogetherLaws.{numbers3_told, root_told}
use Rattle.root.proofs.sqrt_ahead.Goals as goal

pub float_to_bits-x : goal.float_to_bits-x
float_to_bits-x c =
    (numbers3_told _ _ _ (sym c.numbers3.ensures ∙ c.if-numbers3.true)).one

pub returns-then-certain : goal.returns-then-certain
returns-then-certain c =
    root_told _ _ c.well_formed.0.1 c.by_ahead-s.type_inv
    (c.certain.ensures c.if-certain.true)
