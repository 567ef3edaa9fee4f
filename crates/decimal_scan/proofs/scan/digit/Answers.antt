-- `digit` meets its contract: where there is room, nothing is too many. Assumes nothing.
use Prim.Native.Nat.{ℕ, ◌^◌, ◌<◌}
use mathlib.Core.Path.{◌≡◌, sym, ◌∙◌, subst}
use mathlib.Core.Bool.{Bool, true, ◌&&◌, ◌||◌}
use native.Mathlib.Omega.{arith}
use lib.Dec.{T, eqb, ltb, ltb→lt}
use lib.Ieee.Fits.{and_l, and_r}
use Rattle.decimal_scan.specs.Figures.{many, significant, room_for}
use Rattle.decimal_scan.specs.Scan.{digit_after}
use Rattle.decimal_scan.proofs.scan.digit.Goals as goal

few : (r : Bool) (digits places d : ℕ) → r ≡ room_for digits places d → r ≡ true → digits < 2 ^ 32
unfolding room_for
few r digits places d e t =
    ltb→lt digits many (and_l (ltb digits many) (ltb places many && (eqb d 0 || ltb digits significant))
    (subst T (sym (sym e ∙ t)) tt))

near : (r : Bool) (digits places d : ℕ) → r ≡ room_for digits places d → r ≡ true → places < 2 ^ 32
unfolding room_for
near r digits places d e t =
    let both = and_r (ltb digits many) (ltb places many && (eqb d 0 || ltb digits significant)) (subst T (sym (sym e ∙ t)) tt) in
    ltb→lt places many (and_l (ltb places many) (eqb d 0 || ltb digits significant) both)

pub after-figures-requires : goal.after-figures-requires
unfolding digit_after
after-figures-requires c =
    (c.requires.0, few _ _ _ _ c.room.ensures c.if-room.true)

pub overflow_add-places : goal.overflow_add-places
unfolding digit_after
overflow_add-places c =
    record {
      fits = omega (
        arith,
        c.requires.1,
        near _ _ _ _ c.room.ensures c.if-room.true,
      );
    }

pub returns-then-room : goal.returns-then-room
unfolding digit_after
returns-then-room c =
    rw (sym c.room.ensures ∙ c.if-room.true, c.after-figures.ensures)

pub returns : goal.returns
unfolding digit_after
returns c =
    rw (sym c.room.ensures ∙ c.if-room.false) c.at.ensures
