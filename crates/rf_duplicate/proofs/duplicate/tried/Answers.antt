-- `tried` meets its contract: each root was tested by itself. Assumes nothing.
use mathlib.Core.Path.{◌≡◌, sym, ◌∙◌}
use mathlib.Core.Bool.{true≢false}
use lib.Ieee.{Float}
use Rattle.root.specs.Root.{root}
use Rattle.root.specs.Together.{Numbers3}
use Rattle.root.proofs.TogetherLaws.{numbers3_told, root_told}
use Rattle.carlson.specs.Common.{lambda_with}
use Rattle.rf_duplicate.proofs.duplicate.tried.Goals as goal
use Rattle.rf_duplicate.proofs.duplicate.tried.Goals.{Then-numbers3, Then-numbers3-2}

-- none of the arguments is NaN, and none of the guesses
arguments : (c : Then-numbers3) → Numbers3 c.args.x c.args.y c.args.z
arguments c = numbers3_told _ _ _ (sym c.numbers3.ensures ∙ c.if-numbers3.true)

guesses : (c : Then-numbers3-2) → Numbers3 c.by_row-rx.result
    c.by_row-ry.result
    c.by_row-rz.result
guesses c = numbers3_told _ _ _ (sym c.numbers3-then-numbers3.ensures ∙ c.if-numbers3-2.true)

by-roots : (x y z : Float) {rx ry rz : Float} → rx ≡ root x → ry ≡ root y → rz ≡ root z
    → lambda_with rx ry rz ≡ lambda_with (root x) (root y) (root z)
by-roots x y z e f g = rw (e, f, g)

pub float_to_bits-a : goal.float_to_bits-a
float_to_bits-a c =
    (arguments (goal.at.float_to_bits-a c).Then-numbers3).one

pub float_to_bits-b : goal.float_to_bits-b
float_to_bits-b c =
    (arguments (goal.at.float_to_bits-b c).Then-numbers3).two

pub float_to_bits-c : goal.float_to_bits-c
float_to_bits-c c =
    (arguments (goal.at.float_to_bits-c c).Then-numbers3).three

pub told-requires : goal.told-requires
told-requires c =
    guesses (goal.at.told-requires c).Then-numbers3-2

pub returns-then-told : goal.returns-then-told
returns-then-told c =
    let r = c.told.ensures c.if-told.true in
    c.lambda_with.ensures ∙ by-roots _ _ _
    (root_told _ _ c.well_formed.0.1 c.by_row-rx.type_inv r.0)
    (root_told _ _ c.well_formed.1.0.1 c.by_row-ry.type_inv r.1.0)
    (root_told _ _ c.well_formed.1.1.0.1 c.by_row-rz.type_inv r.1.1)
