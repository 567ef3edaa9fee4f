-- Lines that antt computes by the definitions.
use Rattle.std.specs.Prelude.{◌-◌, ◌^◌, ◌≡◌, refl, [], ◌∷◌}
use Rattle.std.specs.Float.Ieee.{to_bits, round}
use Rattle.exact.specs.Exact.{turn, below_zero, size_held, rounded_held}
use Rattle.digits.specs.Digits.{glyph_of, digits}
use Rattle.writing.specs.Decimal.{places_of, decimal}
use Rattle.unpack_stream.specs.Text.{letter_of, name_text}
use Rattle.report_text.specs.Text.{refused_key, slot_key, slot_line, hex_places, hex_text, sign_text, exact_line, sum_line}

-- RF refused 3 1
refused_once : slot_line 1 3 1 ≡ 82 ∷ 70 ∷ 32 ∷ 114 ∷ 101 ∷ 102 ∷ 117 ∷ 115 ∷ 101 ∷ 100 ∷ 32 ∷ 51 ∷ 32 ∷ 49 ∷ []
unfolding slot_line slot_key refused_key name_text letter_of decimal places_of digits glyph_of
refused_once = refl

-- RC exact 0
nothing : exact_line 2 0 ≡ 82 ∷ 67 ∷ 32 ∷ 101 ∷ 120 ∷ 97 ∷ 99 ∷ 116 ∷ 32 ∷ 48 ∷ []
unfolding exact_line sign_text hex_text hex_places size_held below_zero turn name_text letter_of digits glyph_of
nothing = refl

-- CEL exact -1F
below : exact_line 6 (turn - 31) ≡ 67 ∷ 69 ∷ 76 ∷ 32 ∷ 101 ∷ 120 ∷ 97 ∷ 99 ∷ 116 ∷ 32 ∷ 45 ∷ 49 ∷ 70 ∷ []
unfolding exact_line sign_text hex_text hex_places size_held below_zero turn name_text letter_of digits glyph_of
below = refl

-- RF sum 3FF0000000000000
one : sum_line 1 (2 ^ 1074)
    ≡ 82 ∷ 70 ∷ 32 ∷ 115 ∷ 117 ∷ 109 ∷ 32 ∷ 51 ∷ 70 ∷ 70 ∷ 48 ∷ 48 ∷ 48 ∷ 48 ∷ 48 ∷ 48 ∷ 48 ∷ 48 ∷ 48 ∷ 48 ∷ 48 ∷ 48 ∷ 48 ∷ []
unfolding sum_line rounded_held size_held below_zero turn round to_bits name_text letter_of digits glyph_of
one = refl
