-- The parts of an f64's text, one after the other. Assumes nothing.
use Prim.Native.Nat.{ℕ, suc, ◌+◌, ◌≤◌, ◌<◌}
use mathlib.Core.Path.{◌≡◌, sym, ap, ◌∙◌, subst}
use mathlib.Core.Bool.{Bool, true, false, cond}
use mathlib.Core.List.{List, [], ◌∷◌, ◌++◌}
use native.Mathlib.Omega.{arith}
use borrow.Author.Tests.{eq-eqb, ne_eqb}
use lib.ListN.{length, set, length-set, length-append}
use Rattle.digits.specs.Digits.{digits}
use Rattle.digits.proofs.DigitLaws.{digits_length}
use Rattle.writing.specs.Decimal.{places_of, decimal}
use Rattle.writing.specs.Places.{places_same}
use Rattle.writing.specs.Written.{Put, Tried, tried_put, put_more, put_length, put_none, put_byte}
use Rattle.decimal_text.specs.declared.shape.Shape.{Shape}
use Rattle.decimal_text.specs.Shape.{places_text, power_text, shape_text}
use Rattle.decimal_text.specs.Text.{sign_text}
use Rattle.decimal_text.specs.Bounds.{shape_parts}

-- another name for the text
pub put_as : {o out vs ws : List ℕ} {at next : ℕ} → vs ≡ ws → Put o at vs out next → Put o at ws out next
put_as {o} {out} {vs} {ws} {at} {next} e p = subst (λ (l : List ℕ). Put o at l out next) e p

-- ---- the sign
pub sign_room : (s : Bool) → s ≡ true → length (sign_text s) ≡ 1
unfolding sign_text
sign_room s e = rw e

pub sign_there : (s : Bool) (o : List ℕ) (at : ℕ) → s ≡ true → Put o at (sign_text s) (set o at 45) (at + 1)
unfolding sign_text
sign_there s o at e = rw e (put_byte o at 45)

pub sign_not : (s : Bool) (o : List ℕ) (at : ℕ) → s ≡ false → Put o at (sign_text s) o at
unfolding sign_text
sign_not s o at e = rw e (put_none o at)

-- ---- the point and the places
pub point_none : (s : Shape) (o : List ℕ) (at : ℕ) → s.places ≡ 0 → Put o at (places_text s) o at
unfolding places_text
point_none s o at e = put_as (sym (ap (λ (t : Bool). cond t [] (46 ∷ digits 10 s.places s.part)) (eq-eqb s.places 0 e)))
    (put_none o at)

module _ (s : Shape) (some : s.places ≡ 0 → ⊥) where
  point_is : 46 ∷ digits 10 s.places s.part ≡ places_text s
  unfolding places_text
  point_is = sym (ap (λ (t : Bool). cond t [] (46 ∷ digits 10 s.places s.part)) (ne_eqb s.places 0 some))

  pub point_room : length (places_text s) ≡ suc s.places
  point_room = ap length (sym point_is) ∙ ap suc (digits_length 10 s.places s.part)

  pub point_put : {o out : List ℕ} {at next : ℕ} → at + length (places_text s) ≤ length o
      → Tried s.places (set o at 46) (at + 1) (digits 10 s.places s.part) out next → Put o at (places_text s) out next
  point_put {o} {out} {at} h t =
      put_as point_is (put_more (put_byte o at 46) (tried_put (rw length-set (omega (arith, point_room))) t))

-- ---- the power
pub power_none : (s : Shape) (o : List ℕ) (at : ℕ) → s.power ≡ 0 → Put o at (power_text s) o at
unfolding power_text
power_none s o at e =
    put_as (sym (ap (λ (t : Bool). cond t [] (101 ∷ (cond s.below (45 ∷ []) [] ++ decimal 9 s.power)))
    (eq-eqb s.power 0 e))) (put_none o at)

module _ (s : Shape) (some : s.power ≡ 0 → ⊥) where
  power_is : 101 ∷ (sign_text s.below ++ decimal 9 s.power) ≡ power_text s
  unfolding power_text sign_text
  power_is =
      sym (ap (λ (t : Bool). cond t [] (101 ∷ (cond s.below (45 ∷ []) [] ++ decimal 9 s.power))) (ne_eqb s.power 0 some))

  pub power_room : length (power_text s) ≡ suc (length (sign_text s.below) + places_of 9 s.power)
  unfolding decimal
  power_room =
      ap length (sym power_is)
      ∙ ap suc (length-append (sign_text s.below) (digits 10 (places_of 9 s.power) s.power)
      ∙ ap (λ (n : ℕ). length (sign_text s.below) + n) (digits_length 10 (places_of 9 s.power) s.power))

  pub power_put : {o middle out : List ℕ} {at next end : ℕ} (w : ℕ) → s.power < 1000 → w ≡ places_of 19 s.power
      → at + length (power_text s) ≤ length o → Put (set o at 101) (at + 1) (sign_text s.below) middle next
      → Tried w middle next (digits 10 w s.power) out end → Put o at (power_text s) out end
  unfolding decimal
  power_put {o} {middle} {out} {at} {next} w small e h p t =
      let f : w ≡ places_of 9 s.power = e ∙ places_same 2 19 9 s.power small (omega arith) (omega arith) in
      let l : length middle ≡ length o = put_length p ∙ length-set o at 101 in
      let q = tried_put (omega (arith, power_room, p.place)) t in
      put_as power_is (put_more (put_byte o at 101) (put_more p (put_as (ap (λ (k : ℕ). digits 10 k s.power) f) q)))

-- ---- the three
module _ (s : Shape) {o one : List ℕ} {at next : ℕ} (w : ℕ) (e : w ≡ places_of 19 s.whole)
    (room : at + length (shape_text s) ≤ length o) (t : Tried w o at (digits 10 w s.whole) one next)
  where
    whole_put : Put o at (digits 10 w s.whole) one next
    whole_put = tried_put (omega (arith, shape_parts s)) t

    whole_place : next ≡ at + w
    whole_place = whole_put.place ∙ ap (λ (n : ℕ). at + n) (digits_length 10 w s.whole)

    pub room_point : next + length (places_text s) ≤ length one
    room_point = omega (arith, shape_parts s, whole_place, put_length whole_put)

    module _ {two : List ℕ} {after : ℕ} (p : Put one next (places_text s) two after) where
      pub room_power : after + length (power_text s) ≤ length two
      room_power = omega (arith, shape_parts s, whole_place, put_length whole_put, put_length p, p.place)

      pub shape_put : {out : List ℕ} {end : ℕ} → Put two after (power_text s) out end → Put o at (shape_text s) out end
      unfolding shape_text decimal
      shape_put q = put_more (put_as (ap (λ (k : ℕ). digits 10 k s.whole) e) whole_put) (put_more p q)
