-- `put_decimal` meets its contract: so many more digits than one are never passed. Assumes nothing.
use Prim.Native.Nat.{ℕ, suc, ◌+◌, ◌≤◌}
use mathlib.Core.Path.{◌≡◌}
use mathlib.Core.Bool.{Bool}
use mathlib.Core.List.{List}
use native.Mathlib.Numerals.{add-one}
use native.Mathlib.Omega.{arith}
use lib.Dec.{leb}
use lib.ListN.{length}
use Rattle.digits.specs.Digits.{digits}
use Rattle.writing.specs.Decimal.{places_of, decimal}
use Rattle.writing.specs.Places.{places_most}
use Rattle.writing.specs.Written.{Put, there, tried_there}
use Rattle.writing.proofs.numbers.put_decimal.Goals as goal

spelled : (n k more : ℕ) {o out : List ℕ} {at next : ℕ} → k ≡ places_of more n → Put o at (digits 10 k n) out next
    → Put o at (decimal more n) out next
unfolding decimal
spelled n k more e p = rw e at p

-- the test for room, with the one digit that there always is
tested : {t : Bool} (at more l : ℕ) → t ≡ leb (at + (more + 1)) l → t ≡ leb (at + suc more) l
tested at more l e = rw add-one at e

pub spell-requires : goal.spell-requires
spell-requires c =
    let a = c.args in let fits : a.at + (a.more + 1) ≤ length a.out.now = there c.has_room.ensures c.if-has_room.true in record { base_nonzero = omega arith; base_bound = omega arith; k_in_bounds = omega (arith, c.places.ensures, places_most a.more a.n) }

pub returns-then-has_room : goal.returns-then-has_room
returns-then-has_room c =
    let a = c.args in
    tried_there (tested a.at a.more (length a.out.now) c.has_room.ensures) c.if-has_room.true
    (spelled a.n _ a.more c.places.ensures c.spell.ensures)
