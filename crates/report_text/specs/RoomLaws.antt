-- No line is longer than the room that is said for it. Assumes nothing.
use Rattle.std.specs.Prelude.{ℕ, zero, suc, ◌+◌, ◌*◌, ◌/◌, ◌%◌, ◌^◌, ◌≤◌, Bool, true, false, cond, List, [], ◌∷◌, ◌++◌, eqb, leb, ltb, length, get_or}
use Rattle.std.proofs.Common.{arith, length-append}
use Rattle.std.specs.Float.{binary64}
use Rattle.std.specs.Float.Ieee.{to_bits}
use Rattle.exact.specs.Exact.{below_zero, size_held, rounded_held}
use Rattle.digits.specs.Digits.{digits}
use Rattle.digits.proofs.DigitLaws.{digits_length}
use Rattle.writing.specs.Decimal.{decimal}
use Rattle.writing.specs.Places.{places_most}
use Rattle.unpack_stream.specs.Text.{letter_of, name_text}
use Rattle.report_text.specs.Text.{refused_key, slot_key, slot_line, slot_room, hex_places, hex_text, sign_text}
use Rattle.report_text.specs.Text.{exact_line, exact_room, sum_line, sum_room, held_at, line_at, line_room}

-- ---- the parts
pub decimal_most : (more n : ℕ) → length (decimal more n) ≤ suc more
unfolding decimal
decimal_most more n = rw digits_length (places_most more n)

pub name_most : (f : ℕ) → length (name_text f) ≤ 3
unfolding name_text
name_most f = go (eqb f 6)
  where
    go : (t : Bool) → length (cond t (67 ∷ 69 ∷ 76 ∷ []) (82 ∷ letter_of f ∷ [])) ≤ 3
    go true = omega arith
    go false = omega arith

refused_most : (n : ℕ) → length (refused_key n) ≤ 12
unfolding refused_key
refused_most n = omega (arith, length-append (decimal 1 n) (32 ∷ []), decimal_most 1 n)

pub key_most : (i : ℕ) → length (slot_key i) ≤ 12
unfolding slot_key
key_most i = go (eqb i 0) (leb i 27) (eqb i 28)
  where
    go : (s t u : Bool)
        → length
        (cond s (32 ∷ 99 ∷ 97 ∷ 108 ∷ 108 ∷ 115 ∷ 32 ∷ [])
        (cond t (refused_key i)
        (cond u (32 ∷ 114 ∷ 111 ∷ 117 ∷ 110 ∷ 100 ∷ 115 ∷ 32 ∷ []) (32 ∷ 109 ∷ 111 ∷ 115 ∷ 116 ∷ 32 ∷ []))))
        ≤ 12
    go true t u = omega arith
    go false true u = refused_most i
    go false false true = omega arith
    go false false false = omega arith

pub sign_most : (w : ℕ) → length (sign_text w) ≤ 1
unfolding sign_text
sign_most w = go (below_zero w)
  where
    go : (t : Bool) → length {A = ℕ} (cond t (45 ∷ []) []) ≤ 1
    go true = omega arith
    go false = omega arith

pub hex_places_most : (i n : ℕ) → hex_places i n ≤ suc i
unfolding hex_places
hex_places_most zero n = omega arith
hex_places_most (suc i) n = go (ltb n (16 ^ suc i)) (hex_places_most i n)
  where
    go : (t : Bool) {p : ℕ} → p ≤ suc i → cond t p (suc (suc i)) ≤ suc (suc i)
    go true h = omega arith
    go false h = omega arith

hex_most_lem : (n : ℕ) → length (hex_text n) ≤ 544
unfolding hex_text
hex_most_lem n = rw digits_length (hex_places_most 543 n)

-- ---- the lines
pub slot_most : (f i n : ℕ) → length (slot_line f i n) ≤ slot_room
unfolding slot_line
slot_most f i n =
    omega (
      arith,
      length-append (name_text f) (slot_key i ++ decimal 19 n),
      length-append (slot_key i) (decimal 19 n),
      name_most f,
      key_most i,
      decimal_most 19 n,
    )

pub exact_most : (f w : ℕ) → length (exact_line f w) ≤ exact_room
unfolding exact_line
exact_most f w =
    let rest : List ℕ = sign_text w ++ hex_text (size_held w) in
    omega (
      arith,
      length-append (name_text f) (32 ∷ 101 ∷ 120 ∷ 97 ∷ 99 ∷ 116 ∷ 32 ∷ rest),
      length-append (sign_text w) (hex_text (size_held w)),
      name_most f,
      sign_most w,
      hex_most_lem (size_held w),
    )

pub sum_most : (f w : ℕ) → length (sum_line f w) ≤ sum_room
unfolding sum_line
sum_most f w =
    let b = to_bits binary64 (rounded_held w) in
    omega (
      arith,
      length-append (name_text f) (32 ∷ 115 ∷ 117 ∷ 109 ∷ 32 ∷ digits 16 16 b),
      digits_length 16 16 b,
      name_most f,
    )

pub line_most : (ws : List ℕ) (q : ℕ) → length (line_at ws q) + 1 ≤ line_room
unfolding line_at
line_most ws q = go (ltb (q % 32) 30) (eqb (q % 32) 30) (get_or ws (q / 32 * 64 + q % 32) 0)
  where
    f : ℕ
    f = q / 32 + 1

    go : (s t : Bool) (n : ℕ)
        → length (cond s (slot_line f (q % 32) n) (cond t (exact_line f (held_at ws q)) (sum_line f (held_at ws q)))) + 1 ≤ 556
    go true t n = omega (arith, slot_most f (q % 32) n)
    go false true n = omega (arith, exact_most f (held_at ws q))
    go false false n = omega (arith, sum_most f (held_at ws q))
