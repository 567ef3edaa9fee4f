-- The parts make up the texts, and have room in what is asked for. Assumes nothing.
use Rattle.std.specs.Prelude.{ℕ, ◌+◌, ◌≤◌, ◌≡◌, Bool, true, false, cond, eqb, leb, length, Float}
use Rattle.std.proofs.Math.Path.{refl}
use Rattle.std.proofs.Common.{ap, arith, leb-true}
use Rattle.refusals.specs.Numbers.{refusal_number}
use Rattle.refusals.specs.declared.Refusal.{Refusal}
use mathlib.Core.List.{List, [], ◌∷◌, ◌++◌, append-nil, append_assoc}
use Rattle.writing.specs.Decimal.{decimal}
use Rattle.carlson.specs.declared.answer.Road.{Road}
use Rattle.carlson.specs.declared.answer.Road.TheVariants.{Closed, Infinite, Agm, Duplication, Joint, Taylor, Reduction, Loop}
use Rattle.carlson.specs.declared.answer.Found.{Found}
use Rattle.phrases.specs.Runs.{run_to, rooms_to}
use Rattle.phrases.specs.Pieces.{piece_text, room_of}
use Rattle.spoken_parts.specs.Words.{rounds_words, rescaled_words, refused_words, argument_words, arguments_words}
use Rattle.spoken_parts.specs.Held.{all_words, span_of}
use Rattle.spoken_parts.specs.Texts.{told_text, cells_text, tab_text, bits_text, road_words, reason_words, rescaled_text}
use Rattle.spoken_parts.specs.Texts.{found_text, leaf_text, refused_text, why_text, no_call_text, heading_text}
use Rattle.spoken_parts.specs.Texts.{said_text, line_text, longest_line}
use Rattle.spoken_parts.specs.Parts.{part_text, part_room, number_part, told_part, cells_part, hex_part, road_part, reason_part}
use Rattle.spoken_parts.specs.Parts.{rescaled_part, rescaled_count, bits_part, found_part, leaf_part, refused_part}
use Rattle.spoken_parts.specs.Parts.{bad_words, bad_number, wanted_part, bad_end, bad_part, column_part, heading_part}
use Rattle.spoken_parts.specs.Parts.{before_end, part_of}
use Rattle.spoken_parts.specs.declared.parts.Part.{Part}
use Rattle.spoken_parts.specs.declared.parts.Part.TheVariants.{Words}
use Rattle.spoken_parts.specs.declared.said.Form.{Form}
use Rattle.spoken_parts.specs.declared.said.Bad.{Bad}
use Rattle.spoken_parts.specs.declared.said.Bad.TheVariants.{NoFunction, Wanted, NoNumber, TooLarge, TooLong}
use Rattle.spoken_parts.specs.declared.said.Said.{Said}
use Rattle.spoken_parts.specs.declared.said.Said.TheVariants.{Nothing, Heading, Value, Leaf, Refused}
use Rattle.spoken_parts.specs.declared.said.Said.TheVariants.{Bad as NoCall}

-- ---- a part's text, and a bound on the room that it asks for
record Says (p : Part) (l : List ℕ) (k : ℕ) : Type 0 where
  is : part_text p ≡ l
  most : part_room p ≤ k

words : (from to k : ℕ) (l : List ℕ) → span_of all_words from to ≡ l → leb (length l) k ≡ true → Says (Words from to) l k
unfolding part_text part_room
words from to k l e t = record { is = e; most = rw e (leb-true (length l) k t) }

pick : (t : Bool) {p q : Part} {a b : List ℕ} {k : ℕ} → Says p a k → Says q b k → Says (cond t p q) (cond t a b) k
pick true x y = x
pick false x y = y

none : (k : ℕ) → Says (Words 0 0) [] k
unfolding part_text part_room span_of
none k = record { is = refl; most = omega arith }

told : (t : Bool) (from to k : ℕ) (l : List ℕ) → span_of all_words from to ≡ l → leb (length l) k ≡ true → leb 1 k ≡ true
    → Says (told_part t from to) (told_text t l) k
unfolding told_part told_text span_of
told t from to k l e n one = pick t (words 487 488 k (9 ∷ []) refl one) (words from to k l e n)

cells : (t : Bool) (from to k : ℕ) (l : List ℕ) → span_of all_words from to ≡ l → leb (length l) k ≡ true → leb 4 k ≡ true
    → Says (cells_part t from to) (cells_text t l) k
unfolding cells_part cells_text span_of
cells t from to k l e n four = pick t (words 487 491 k (9 ∷ 9 ∷ 9 ∷ 9 ∷ []) refl four) (words from to k l e n)

tab : (hex : Bool) → Says (hex_part hex) (tab_text hex) 1
unfolding hex_part tab_text span_of
tab hex = pick hex (words 487 488 1 _ refl refl) (none 1)

bits : (hex : Bool) (x : Float) → Says (bits_part hex x) (bits_text hex x) 16
unfolding bits_part bits_text part_text part_room piece_text room_of
bits hex x = pick hex (record { is = refl; most = omega arith }) (none 16)

road : (r : Road) → Says (road_part r) (road_words r) 11
unfolding road_part road_words span_of
road Closed = words 0 6 11 _ refl refl
road Infinite = words 6 14 11 _ refl refl
road Agm = words 14 17 11 _ refl refl
road Duplication = words 17 28 11 _ refl refl
road Joint = words 28 33 11 _ refl refl
road Taylor = words 33 39 11 _ refl refl
road Reduction = words 39 48 11 _ refl refl
road Loop = words 48 52 11 _ refl refl

reason : (n : ℕ) → Says (reason_part n) (reason_words n) 29
unfolding reason_part reason_words span_of
reason n =
    pick (eqb n 1) (words 52 72 29 _ refl refl)
    (pick (eqb n 2) (words 72 99 29 _ refl refl)
    (pick (eqb n 3) (words 99 115 29 _ refl refl)
    (pick (eqb n 4) (words 115 140 29 _ refl refl)
    (pick (eqb n 5) (words 140 164 29 _ refl refl)
    (pick (eqb n 6) (words 164 182 29 _ refl refl)
    (pick (eqb n 7) (words 164 182 29 _ refl refl)
    (pick (eqb n 8) (words 164 182 29 _ refl refl)
    (pick (eqb n 9) (words 182 211 29 _ refl refl)
    (pick (eqb n 10) (words 211 235 29 _ refl refl)
    (pick (eqb n 19) (words 235 263 29 _ refl refl)
    (pick (eqb n 20) (words 263 283 29 _ refl refl)
    (pick (eqb n 21) (words 283 300 29 _ refl refl) (none 29)))))))))))))

-- ---- how often it was rescaled: two parts
rescaled_word : (t : Bool) (n : ℕ) → Says (rescaled_part t n) (cond t (9 ∷ []) (cond (eqb n 0) [] rescaled_words)) 11
unfolding rescaled_part span_of
rescaled_word t n = pick t (words 487 488 11 _ refl refl) (pick (eqb n 0) (none 11) (words 468 479 11 _ refl refl))

rescaled_count_lem : (t : Bool) (n : ℕ) → Says (rescaled_count t n) (cond t (decimal 19 n) (cond (eqb n 0) [] (decimal 19 n))) 20
unfolding rescaled_count part_text part_room piece_text room_of
rescaled_count_lem t n =
    let d : Says (number_part n) (decimal 19 n) 20 = record { is = refl; most = omega arith } in
    pick t d (pick (eqb n 0) (none 20) d)

joined : (t z : Bool) (d : List ℕ) → cond t (9 ∷ []) (cond z [] rescaled_words) ++ cond t d (cond z [] d)
    ≡ cond t ((9 ∷ []) ++ d) (cond z [] (rescaled_words ++ d))
joined true z d = refl
joined false true d = refl
joined false false d = refl

rescaled_more : (t : Bool) (n : ℕ) (l : List ℕ) → (l ++ part_text (rescaled_part t n)) ++ part_text (rescaled_count t n)
    ≡ l ++ rescaled_text t n
unfolding rescaled_text
rescaled_more t n l =
    rw ((rescaled_word t n).is, (rescaled_count_lem t n).is, append_assoc)
    (ap (λ (m : List ℕ). l ++ m) (joined t (eqb n 0) (decimal 19 n)))

-- ---- why a line is no call: three parts
wanted : (n : ℕ) → Says (wanted_part n) (cond (eqb n 1) argument_words arguments_words) 17
unfolding wanted_part span_of
wanted n = pick (eqb n 1) (words 379 395 17 _ refl refl) (words 395 412 17 _ refl refl)

why_more : (b : Bad) (l : List ℕ)
    → ((l ++ part_text (bad_words b)) ++ part_text (bad_number b)) ++ part_text (bad_end b) ≡ l ++ why_text b
unfolding bad_words bad_number bad_end why_text part_text piece_text span_of
why_more NoFunction l = simp append-nil refl
why_more (Wanted n) l = rw (wanted n).is (simp (append-nil, append_assoc) refl)
why_more (NoNumber place) l = simp (append-nil, append_assoc) refl
why_more (TooLarge place) l = simp (append-nil, append_assoc) refl
why_more TooLong l = simp append-nil refl

why_room : (b : Bad) → part_room (bad_words b) + part_room (bad_number b) + part_room (bad_end b) ≤ 46
unfolding bad_words bad_number bad_end part_room room_of span_of
why_room NoFunction = omega arith
why_room (Wanted n) = omega (arith, (wanted n).most)
why_room (NoNumber place) = omega arith
why_room (TooLarge place) = omega arith
why_room TooLong = omega arith

-- ---- the texts
module _ (form : Form) where
  rounds_told : Says (told_part form.table 458 468) (told_text form.table rounds_words) 10
  unfolding span_of
  rounds_told = told form.table 458 468 10 rounds_words refl refl refl

  comma_told : Says (told_part form.table 468 470) (told_text form.table (44 ∷ 32 ∷ [])) 2
  unfolding span_of
  comma_told = told form.table 468 470 2 (44 ∷ 32 ∷ []) refl refl refl

  end_told : Says (told_part form.table 0 0) (told_text form.table []) 1
  unfolding span_of
  end_told = told form.table 0 0 1 [] refl refl refl

  no_cells : Says (cells_part form.table 0 0) (cells_text form.table []) 4
  unfolding span_of
  no_cells = cells form.table 0 0 4 [] refl refl refl

  refused_cells : Says (cells_part form.table 479 487) (cells_text form.table refused_words) 8
  unfolding span_of
  refused_cells = cells form.table 479 487 8 refused_words refl refl refl

  bits_column_lem : Says (column_part form.hex) (cond form.hex (9 ∷ 98 ∷ 105 ∷ 116 ∷ 115 ∷ []) []) 5
  unfolding column_part span_of
  bits_column_lem = pick form.hex (words 453 458 5 _ refl refl) (none 5)

  found_is : (f : Found) → run_to part_text (part_of (Value f) form) 11 ≡ line_text (Value f) form
  unfolding run_to part_of before_end found_part part_text piece_text span_of line_text said_text found_text
  found_is f =
      rw (
        rounds_told.is,
        comma_told.is,
        (road f.road).is,
        rescaled_more form.table f.way.rescalings,
        end_told.is,
        (tab form.hex).is,
        (bits form.hex f.value).is,
      ) (simp append_assoc refl)

  leaf_is : (x : Float) → run_to part_text (part_of (Leaf x) form) 11 ≡ line_text (Leaf x) form
  unfolding run_to part_of before_end leaf_part part_text piece_text span_of line_text said_text leaf_text
  leaf_is x = rw (no_cells.is, (tab form.hex).is, (bits form.hex x).is) (simp (append-nil, append_assoc) refl)

  refused_is : (r : Refusal) → run_to part_text (part_of (Refused r) form) 11 ≡ line_text (Refused r) form
  unfolding run_to part_of before_end refused_part part_text piece_text span_of line_text said_text refused_text
  refused_is r = rw (refused_cells.is, (reason (refusal_number r)).is, (tab form.hex).is) (simp (append-nil, append_assoc) refl)

  no_call_is : (b : Bad) → run_to part_text (part_of (NoCall b) form) 11 ≡ line_text (NoCall b) form
  unfolding run_to part_of before_end bad_part part_text span_of line_text said_text no_call_text
  no_call_is b = rw (no_cells.is, why_more b, (tab form.hex).is) (simp (append-nil, append_assoc) refl)

heading_is : (table hex : Bool) → let form : Form = record { table = table; hex = hex } in
    run_to part_text (part_of Heading form) 11 ≡ line_text Heading form
unfolding run_to part_of before_end heading_part column_part part_text span_of line_text said_text heading_text
heading_is table true = refl
heading_is table false = refl

-- THE LAW: all its parts are the line
pub parts_are : (s : Said) (form : Form) → run_to part_text (part_of s form) 11 ≡ line_text s form
parts_are Nothing form = unfold run_to part_of before_end part_text span_of line_text said_text in refl
parts_are Heading form = heading_is form.table form.hex
parts_are (Value f) form = found_is form f
parts_are (Leaf x) form = leaf_is form x
parts_are (Refused r) form = refused_is form r
parts_are (NoCall b) form = no_call_is form b

-- THE LAW: the parts have room
pub parts_fit : (s : Said) (form : Form) → rooms_to part_room (part_of s form) 11 ≤ longest_line
unfolding rooms_to part_of before_end found_part leaf_part refused_part bad_part heading_part part_room room_of span_of
parts_fit Nothing form = omega arith
parts_fit Heading form = omega (arith, (bits_column_lem form).most)
parts_fit (Value f) form =
    omega (
      arith,
      (rounds_told form).most,
      (comma_told form).most,
      (road f.road).most,
      (rescaled_word form.table f.way.rescalings).most,
      (rescaled_count_lem form.table f.way.rescalings).most,
      (end_told form).most,
      (tab form.hex).most,
      (bits form.hex f.value).most,
    )
parts_fit (Leaf x) form = omega (arith, (no_cells form).most, (tab form.hex).most, (bits form.hex x).most)
parts_fit (Refused r) form = omega (arith, (refused_cells form).most, (reason (refusal_number r)).most, (tab form.hex).most)
parts_fit (NoCall b) form = omega (arith, (no_cells form).most, why_room b, (tab form.hex).most)
