-- `both_roots` meets its contract: each root was tested by itself, or found by itself. Assumes nothing.
use mathlib.Core.Path.{sym, ◌∙◌}
use Rattle.root.specs.Together.{Numbers3}
use Rattle.root.proofs.TogetherLaws.{numbers3_told, root_told}
use Rattle.rc_cases.proofs.roots.both_roots.Goals as goal
use Rattle.rc_cases.proofs.roots.both_roots.Goals.{Then-numbers3, Then-numbers3-2}

-- none of the arguments is NaN, and none of the guesses
arguments : (c : Then-numbers3) → let a = c.args in Numbers3 a.x a.y a.y
arguments c = numbers3_told _ _ _ (sym c.numbers3.ensures ∙ c.if-numbers3.true)

guesses : (c : Then-numbers3-2) → Numbers3 c.by_row-rx.result
    c.by_row-ry.result
    c.by_row-ry.result
guesses c = numbers3_told _ _ _ (sym c.numbers3-then-numbers3.ensures ∙ c.if-numbers3-2.true)

pub float_to_bits-a : goal.float_to_bits-a
float_to_bits-a c =
    (arguments (goal.at.float_to_bits-a c).Then-numbers3).one

pub float_to_bits-b : goal.float_to_bits-b
float_to_bits-b c =
    (arguments (goal.at.float_to_bits-b c).Then-numbers3).two

pub float_to_bits-rx : goal.float_to_bits-rx
float_to_bits-rx c =
    (guesses (goal.at.float_to_bits-rx c).Then-numbers3-2).one

pub float_to_bits-ry : goal.float_to_bits-ry
float_to_bits-ry c =
    (guesses (goal.at.float_to_bits-ry c).Then-numbers3-2).two

pub returns-then-certain-2 : goal.returns-then-certain-2
returns-then-certain-2 c = (
  root_told _ _ c.well_formed.0.1 c.by_row-rx.type_inv (c.certain.ensures c.if-certain.true),
  root_told _ _ c.well_formed.1.0.1 c.by_row-ry.type_inv (c.certain-then-certain.ensures c.if-certain-2.true),
)
