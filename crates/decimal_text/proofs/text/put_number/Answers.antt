-- `put_number` meets its contract: it writes where there is room, the sign and then the size. Assumes nothing.
use Prim.Native.Nat.{ℕ, ◌+◌, ◌^◌, ◌≤◌}
use mathlib.Core.Path.{◌≡◌, sym, ap, ◌∙◌, subst}
use mathlib.Core.Bool.{Bool}
use mathlib.Core.List.{◌++◌}
use native.Mathlib.Omega.{arith}
use borrow.Author.Rules.{rules}
use lib.Dec.{T, leb}
use lib.Ieee.{Float, binary64, fits, to_bits}
use lib.ListN.{length}
use Rattle.binary64.specs.Leaves.{absolute}
use Rattle.writing.specs.Written.{there, tried_there, tried_lacking, put_more, put_length, place_most}
use Rattle.decimal_text.specs.Text.{sign_text, text_of}
use Rattle.decimal_text.specs.Plain.{sign_of, sign_is, plain_text, text_is, sign_length}
use Rattle.decimal_text.proofs.Parts.{put_as}
use Rattle.decimal_text.proofs.text.put_number.Goals as goal
use Rattle.decimal_text.proofs.text.put_number.Goals.{Then-has_room}

both : (x y : Float) (b : ℕ) → T (fits binary64 x) → b ≡ to_bits binary64 x → y ≡ absolute x
    → sign_text (leb (2 ^ 63) b) ++ plain_text y ≡ text_of x
both x y b f e g =
    let s : leb (2 ^ 63) b ≡ sign_of x = ap (λ (n : ℕ). leb (2 ^ 63) n) e ∙ sym (sign_is x f) in
    ap (λ (t : Bool). sign_text t ++ plain_text y) s ∙ ap (λ (z : Float). sign_text (sign_of x) ++ plain_text z) g ∙ text_is x

room : (c : Then-has_room) → let a = c.args in a.at + 24 ≤ length a.out.now
room c = there c.has_room.ensures c.if-has_room.true

sign_fits : (s : Bool) (at : ℕ) {l : ℕ} → at + 24 ≤ l → at + length (sign_text s) ≤ l
sign_fits s at h = omega (arith, sign_length s)

pub put_sign-size-requires : goal.put_sign-size-requires
put_sign-size-requires c =
    sign_fits _ _ (room (goal.at.put_sign-size-requires c).Then-has_room)

pub put_plain-requires : goal.put_plain-requires
put_plain-requires c =
    let s = c.put_sign-size.ensures in
    omega (arith, room (goal.at.put_plain-requires c).Then-has_room, place_most 1 s (sign_length _), put_length s)

pub returns-then-has_room : goal.returns-then-has_room
returns-then-has_room c =
    tried_there c.has_room.ensures c.if-has_room.true
    (put_as (both c.args.x _ _ (subst T (sym c.well_formed.0.1) tt) c.split.ensures c.abs.ensures)
    (put_more c.put_sign-size.ensures c.put_plain.ensures))
