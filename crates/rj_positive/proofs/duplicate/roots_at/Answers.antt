-- `roots_at` meets its contract: each root was tested by itself, or found by itself. Assumes nothing.
use mathlib.Core.Path.{sym, ◌∙◌}
use Rattle.root.specs.Together.{Numbers4}
use Rattle.root.proofs.TogetherLaws.{numbers4_told, root_told}
use Rattle.rj_positive.proofs.duplicate.roots_at.Goals as goal
use Rattle.rj_positive.proofs.duplicate.roots_at.Goals.{Then-numbers4, Then-numbers4-2}

-- none of the arguments is NaN, and none of the guesses
arguments : (c : Then-numbers4) → Numbers4 c.args.x c.args.y c.args.z
    c.args.p
arguments c = numbers4_told _ _ _ _ (sym c.numbers4.ensures ∙ c.if-numbers4.true)

guesses : (c : Then-numbers4-2) → Numbers4 c.by_row-rx.result
    c.by_row-ry.result
    c.by_row-rz.result
    c.by_row-rp.result
guesses c = numbers4_told _ _ _ _ (sym c.numbers4-then-numbers4.ensures ∙ c.if-numbers4-2.true)

pub float_to_bits-a : goal.float_to_bits-a
float_to_bits-a c =
    (arguments (goal.at.float_to_bits-a c).Then-numbers4).one

pub float_to_bits-b : goal.float_to_bits-b
float_to_bits-b c =
    (arguments (goal.at.float_to_bits-b c).Then-numbers4).two

pub float_to_bits-c : goal.float_to_bits-c
float_to_bits-c c =
    (arguments (goal.at.float_to_bits-c c).Then-numbers4).three

pub float_to_bits-d : goal.float_to_bits-d
float_to_bits-d c =
    (arguments (goal.at.float_to_bits-d c).Then-numbers4).four

pub float_to_bits-rx : goal.float_to_bits-rx
float_to_bits-rx c =
    (guesses (goal.at.float_to_bits-rx c).Then-numbers4-2).one

pub float_to_bits-ry : goal.float_to_bits-ry
float_to_bits-ry c =
    (guesses (goal.at.float_to_bits-ry c).Then-numbers4-2).two

pub float_to_bits-rz : goal.float_to_bits-rz
float_to_bits-rz c =
    (guesses (goal.at.float_to_bits-rz c).Then-numbers4-2).three

pub float_to_bits-rp : goal.float_to_bits-rp
float_to_bits-rp c =
    (guesses (goal.at.float_to_bits-rp c).Then-numbers4-2).four

pub returns-then-certain-4 : goal.returns-then-certain-4
returns-then-certain-4 c = (
  root_told _ _ c.well_formed.0.1 c.by_row-rx.type_inv
      (c.certain.ensures c.if-certain.true),
  (
    root_told _ _ c.well_formed.1.0.1 c.by_row-ry.type_inv
        (c.certain-then-certain.ensures c.if-certain-2.true),
    (
      root_told _ _ c.well_formed.1.1.0.1 c.by_row-rz.type_inv (c.certain-then-certain-2.ensures c.if-certain-3.true),
      root_told _ _ c.well_formed.1.1.1.0.1 c.by_row-rp.type_inv (c.certain-then-certain-3.ensures c.if-certain-4.true),
    ),
  ),
)
