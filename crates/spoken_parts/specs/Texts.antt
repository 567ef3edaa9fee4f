-- What is said to a call with decimals: a line for people, or a row of a table whose columns are parted by tabs. Definitions
-- only.
use Rattle.std.specs.Prelude.{ℕ, Bool, true, false, cond, List, [], ◌∷◌, ◌++◌, eqb, take, Float}
use Rattle.std.specs.Float.{binary64}
use Rattle.std.specs.Float.Ieee.{to_bits}
use Rattle.refusals.specs.Numbers.{refusal_number}
use Rattle.digits.specs.Digits.{digits}
use Rattle.writing.specs.Decimal.{decimal}
use Rattle.carlson.specs.declared.answer.Road.{Road}
use Rattle.carlson.specs.declared.answer.Road.TheVariants.{Closed, Infinite, Agm, Duplication, Joint, Taylor, Reduction, Loop}
use Rattle.carlson.specs.declared.answer.Found.{Found}
use Rattle.decimal_text.specs.Text.{text_of}
use Rattle.spoken_parts.specs.Words.{
  nan_words,
  below_zero_words,
  zeros_words,
  zero_words,
  not_above_words,
  no_result_words,
  spent_words,
  fifth_words,
  several_infinite_words,
  infinite_words,
  wrong_sign_words,
  bad_line_words,
  no_function_words,
  no_number_words,
  too_large_words,
  too_long_words,
  argument_words,
  arguments_words,
  columns_words,
  bits_column,
  rounds_words,
  rescaled_words,
  refused_words,
}
use Rattle.spoken_parts.specs.declared.said.Form.{Form}
use Rattle.spoken_parts.specs.declared.said.Bad.{Bad}
use Rattle.spoken_parts.specs.declared.said.Bad.TheVariants.{NoFunction, Wanted, NoNumber, TooLarge, TooLong}
use Rattle.spoken_parts.specs.declared.said.Said.{Said}
use Rattle.spoken_parts.specs.declared.said.Said.TheVariants.{Nothing, Heading, Value, Leaf, Refused}
use Rattle.spoken_parts.specs.declared.said.Said.TheVariants.{Bad as NoCall}

-- a tab in a row, words for people
unfoldable pub told_text : Bool → List ℕ → List ℕ
told_text table words = cond table (9 ∷ []) words

-- the four tabs of the columns up to the refusal, or words
unfoldable pub cells_text : Bool → List ℕ → List ℕ
cells_text table words = cond table (9 ∷ 9 ∷ 9 ∷ 9 ∷ []) words

-- the last column: a tab and the value's bits; where there are none, the tab alone
unfoldable pub tab_text : Bool → List ℕ
tab_text hex = cond hex (9 ∷ []) []

unfoldable pub bits_text : Bool → Float → List ℕ
bits_text hex x = cond hex (digits 16 16 (to_bits binary64 x)) []

-- the listing's words for a road (`RoadLaws`)
unfoldable pub road_words : Road → List ℕ
road_words Closed = 99 ∷ 108 ∷ 111 ∷ 115 ∷ 101 ∷ 100 ∷ []
road_words Infinite = 105 ∷ 110 ∷ 102 ∷ 105 ∷ 110 ∷ 105 ∷ 116 ∷ 101 ∷ []
road_words Agm = 97 ∷ 103 ∷ 109 ∷ []
road_words Duplication = 100 ∷ 117 ∷ 112 ∷ 108 ∷ 105 ∷ 99 ∷ 97 ∷ 116 ∷ 105 ∷ 111 ∷ 110 ∷ []
road_words Joint = 106 ∷ 111 ∷ 105 ∷ 110 ∷ 116 ∷ []
road_words Taylor = 116 ∷ 97 ∷ 121 ∷ 108 ∷ 111 ∷ 114 ∷ []
road_words Reduction = 114 ∷ 101 ∷ 100 ∷ 117 ∷ 99 ∷ 116 ∷ 105 ∷ 111 ∷ 110 ∷ []
road_words Loop = 108 ∷ 111 ∷ 111 ∷ 112 ∷ []

-- docs/REFUSALS.md's words, shortened: what an entry can refuse for
unfoldable pub reason_words : ℕ → List ℕ
reason_words n =
    cond (eqb n 1) nan_words
    (cond (eqb n 2) below_zero_words
    (cond (eqb n 3) zeros_words
    (cond (eqb n 4) zero_words
    (cond (eqb n 5) not_above_words
    (cond (eqb n 6) no_result_words
    (cond (eqb n 7) no_result_words
    (cond (eqb n 8) no_result_words
    (cond (eqb n 9) spent_words
    (cond (eqb n 10) fifth_words
    (cond (eqb n 19) several_infinite_words
    (cond (eqb n 20) infinite_words
    (cond (eqb n 21) wrong_sign_words []))))))))))))

-- how many times it was rescaled: a column, and for people only where it was
unfoldable pub rescaled_text : Bool → ℕ → List ℕ
rescaled_text table n = cond table ((9 ∷ []) ++ decimal 19 n) (cond (eqb n 0) [] (rescaled_words ++ decimal 19 n))

-- ---- a value with its way; a leaf's value; a refusal; a bad line; the table's heading
unfoldable pub found_text : Found → Form → List ℕ
found_text f form =
    text_of f.value ++ told_text form.table rounds_words ++ decimal 19 f.way.rounds
    ++ told_text form.table (44 ∷ 32 ∷ []) ++ road_words f.road ++ rescaled_text form.table f.way.rescalings
    ++ told_text form.table [] ++ tab_text form.hex ++ bits_text form.hex f.value

unfoldable pub leaf_text : Float → Form → List ℕ
leaf_text x form = text_of x ++ cells_text form.table [] ++ tab_text form.hex ++ bits_text form.hex x

unfoldable pub refused_text : ℕ → Form → List ℕ
refused_text n form = cells_text form.table refused_words ++ decimal 19 n ++ reason_words n ++ tab_text form.hex

unfoldable pub why_text : Bad → List ℕ
why_text NoFunction = no_function_words
why_text (Wanted n) = decimal 19 n ++ cond (eqb n 1) argument_words arguments_words
why_text (NoNumber place) = no_number_words ++ decimal 19 place
why_text (TooLarge place) = too_large_words ++ decimal 19 place
why_text TooLong = too_long_words

unfoldable pub no_call_text : Bad → Form → List ℕ
no_call_text b form = cells_text form.table [] ++ bad_line_words ++ why_text b ++ tab_text form.hex

unfoldable pub heading_text : Form → List ℕ
heading_text form = columns_words ++ cond form.hex bits_column []

-- ---- the line, and its end
unfoldable pub said_text : Said → Form → List ℕ
said_text Nothing form = []
said_text Heading form = heading_text form
said_text (Value f) form = found_text f form
said_text (Leaf x) form = leaf_text x form
said_text (Refused r) form = refused_text (refusal_number r) form
said_text (NoCall b) form = no_call_text b form

unfoldable pub line_text : Said → Form → List ℕ
line_text s form = said_text s form ++ 10 ∷ []

-- ---- a row begins with the call as it was given, up to 128 bytes of it, and a tab; a tab or a carriage return in it would end
-- the column or the row, so that a blank stands there
unfoldable pub shown_byte : ℕ → ℕ
shown_byte b = cond (eqb b 9) 32 (cond (eqb b 13) 32 b)

unfoldable pub shown_bytes : List ℕ → List ℕ
shown_bytes [] = []
shown_bytes (b ∷ l) = shown_byte b ∷ shown_bytes l

unfoldable pub given_text : List ℕ → List ℕ
given_text line = shown_bytes (take 128 line) ++ 9 ∷ []

-- to a line without a word nothing is said
unfoldable pub speaks : Said → Bool
speaks Nothing = false
speaks Heading = true
speaks (Value f) = true
speaks (Leaf x) = true
speaks (Refused r) = true
speaks (NoCall b) = true

unfoldable pub reply_text : Said → Form → List ℕ → List ℕ
reply_text s form line = cond (speaks s) (cond form.table (given_text line) [] ++ line_text s form) []

-- how long they are at most
abbrev pub longest_line : ℕ
longest_line = 127

abbrev pub longest_reply : ℕ
longest_reply = 256
