-- The parts of what is said, one after the other: places of the text that holds all words, values, numbers. That they make up
-- the texts is proved in `PartLaws`. Definitions only.
use Rattle.std.specs.Prelude.{ℕ, Bool, cond, List, eqb, length, Float}
use Rattle.std.specs.Float.{binary64}
use Rattle.std.specs.Float.Ieee.{to_bits}
use Rattle.refusals.specs.Numbers.{refusal_number}
use Rattle.carlson.specs.declared.answer.Road.{Road}
use Rattle.carlson.specs.declared.answer.Road.TheVariants.{Closed, Infinite, Agm, Duplication, Joint, Taylor, Reduction, Loop}
use Rattle.carlson.specs.declared.answer.Found.{Found}
use Rattle.phrases.specs.Pieces.{piece_text, room_of}
use Rattle.phrases.specs.declared.Piece.TheVariants.{Number, Bits}
use Rattle.decimal_text.specs.Text.{text_of}
use Rattle.spoken_parts.specs.Held.{all_words, span_of}
use Rattle.spoken_parts.specs.declared.parts.Part.{Part}
use Rattle.spoken_parts.specs.declared.parts.Part.TheVariants.{Words, Value, Piece}
use Rattle.spoken_parts.specs.declared.said.Form.{Form}
use Rattle.spoken_parts.specs.declared.said.Bad.{Bad}
use Rattle.spoken_parts.specs.declared.said.Bad.TheVariants.{NoFunction, Wanted, NoNumber, TooLarge, TooLong}
use Rattle.spoken_parts.specs.declared.said.Said.{Said}
use Rattle.spoken_parts.specs.declared.said.Said.TheVariants.{Nothing, Heading, Leaf, Refused}
use Rattle.spoken_parts.specs.declared.said.Said.TheVariants.{Value as Valued, Bad as NoCall}

-- ---- a part's text, and the room that it asks for
unfoldable pub part_text : Part → List ℕ
part_text (Words from to) = span_of all_words from to
part_text (Value x) = text_of x
part_text (Piece p) = piece_text p

unfoldable pub part_room : Part → ℕ
part_room (Words from to) = length (span_of all_words from to)
part_room (Value x) = 24
part_room (Piece p) = room_of p

-- ---- the parts
abbrev pub nothing_part : Part
nothing_part = Words 0 0

abbrev pub tab_part : Part
tab_part = Words 487 488

abbrev pub number_part : ℕ → Part
number_part n = Piece (Number n)

unfoldable pub told_part : Bool → ℕ → ℕ → Part
told_part table from to = cond table tab_part (Words from to)

unfoldable pub cells_part : Bool → ℕ → ℕ → Part
cells_part table from to = cond table (Words 487 491) (Words from to)

unfoldable pub hex_part : Bool → Part
hex_part hex = cond hex tab_part nothing_part

unfoldable pub road_part : Road → Part
road_part Closed = Words 0 6
road_part Infinite = Words 6 14
road_part Agm = Words 14 17
road_part Duplication = Words 17 28
road_part Joint = Words 28 33
road_part Taylor = Words 33 39
road_part Reduction = Words 39 48
road_part Loop = Words 48 52

unfoldable pub reason_part : ℕ → Part
reason_part n =
    cond (eqb n 1) (Words 52 72)
    (cond (eqb n 2) (Words 72 99)
    (cond (eqb n 3) (Words 99 115)
    (cond (eqb n 4) (Words 115 140)
    (cond (eqb n 5) (Words 140 164)
    (cond (eqb n 6) (Words 164 182)
    (cond (eqb n 7) (Words 164 182)
    (cond (eqb n 8) (Words 164 182)
    (cond (eqb n 9) (Words 182 211)
    (cond (eqb n 10) (Words 211 235)
    (cond (eqb n 19) (Words 235 263)
    (cond (eqb n 20) (Words 263 283)
    (cond (eqb n 21) (Words 283 300) nothing_part))))))))))))

unfoldable pub rescaled_part : Bool → ℕ → Part
rescaled_part table n = cond table tab_part (cond (eqb n 0) nothing_part (Words 468 479))

unfoldable pub rescaled_count : Bool → ℕ → Part
rescaled_count table n = cond table (number_part n) (cond (eqb n 0) nothing_part (number_part n))

unfoldable pub bits_part : Bool → Float → Part
bits_part hex x = cond hex (Piece (Bits (to_bits binary64 x))) nothing_part

unfoldable pub found_part : Found → Form → ℕ → Part
found_part f form i =
    cond (eqb i 0) (Value f.value)
    (cond (eqb i 1) (told_part form.table 458 468)
    (cond (eqb i 2) (number_part f.way.rounds)
    (cond (eqb i 3) (told_part form.table 468 470)
    (cond (eqb i 4) (road_part f.road)
    (cond (eqb i 5) (rescaled_part form.table f.way.rescalings)
    (cond (eqb i 6) (rescaled_count form.table f.way.rescalings)
    (cond (eqb i 7) (told_part form.table 0 0)
    (cond (eqb i 8) (hex_part form.hex)
    (bits_part form.hex f.value)))))))))

unfoldable pub leaf_part : Float → Form → ℕ → Part
leaf_part x form i =
    cond (eqb i 0) (Value x)
    (cond (eqb i 1) (cells_part form.table 0 0)
    (cond (eqb i 2) (hex_part form.hex)
    (cond (eqb i 3) (bits_part form.hex x) nothing_part)))

unfoldable pub refused_part : ℕ → Form → ℕ → Part
refused_part n form i =
    cond (eqb i 0) (cells_part form.table 479 487)
    (cond (eqb i 1) (number_part n)
    (cond (eqb i 2) (reason_part n)
    (cond (eqb i 3) (hex_part form.hex) nothing_part)))

-- what stands before the number of a bad line, the number, and what stands after it
unfoldable pub bad_words : Bad → Part
bad_words NoFunction = Words 310 326
bad_words (Wanted n) = nothing_part
bad_words (NoNumber place) = Words 326 345
bad_words (TooLarge place) = Words 345 371
bad_words TooLong = Words 371 379

unfoldable pub bad_number : Bad → Part
bad_number NoFunction = nothing_part
bad_number (Wanted n) = number_part n
bad_number (NoNumber place) = number_part place
bad_number (TooLarge place) = number_part place
bad_number TooLong = nothing_part

unfoldable pub wanted_part : ℕ → Part
wanted_part n = cond (eqb n 1) (Words 379 395) (Words 395 412)

unfoldable pub bad_end : Bad → Part
bad_end NoFunction = nothing_part
bad_end (Wanted n) = wanted_part n
bad_end (NoNumber place) = nothing_part
bad_end (TooLarge place) = nothing_part
bad_end TooLong = nothing_part

unfoldable pub bad_part : Bad → Form → ℕ → Part
bad_part b form i =
    cond (eqb i 0) (cells_part form.table 0 0)
    (cond (eqb i 1) (Words 300 310)
    (cond (eqb i 2) (bad_words b)
    (cond (eqb i 3) (bad_number b)
    (cond (eqb i 4) (bad_end b)
    (cond (eqb i 5) (hex_part form.hex) nothing_part)))))

unfoldable pub column_part : Bool → Part
column_part hex = cond hex (Words 453 458) nothing_part

unfoldable pub heading_part : Bool → ℕ → Part
heading_part hex i = cond (eqb i 0) (Words 412 453) (cond (eqb i 1) (column_part hex) nothing_part)

-- ---- whatever is said: ten parts, and the line's end
unfoldable pub before_end : Said → Form → ℕ → Part
before_end Nothing form i = nothing_part
before_end Heading form i = heading_part form.hex i
before_end (Valued f) form i = found_part f form i
before_end (Leaf x) form i = leaf_part x form i
before_end (Refused r) form i = refused_part (refusal_number r) form i
before_end (NoCall b) form i = bad_part b form i

unfoldable pub part_of : Said → Form → ℕ → Part
part_of s form i = cond (eqb i 10) (Words 491 492) (before_end s form i)
