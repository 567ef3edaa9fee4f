-- Some decimals laid out, computed. Assumes nothing.
use Rattle.std.specs.Prelude.{◌≡◌, refl, [], ◌∷◌, length}
use Rattle.digits.specs.Digits.{digits, glyph_of}
use Rattle.writing.specs.Decimal.{places_of, decimal}
use Rattle.decimal_text.specs.Shape.{whole_shape, point_shape, power_shape, shape_of, places_text, power_text, shape_text}

-- `250`
whole : shape_text (shape_of 25 1201) ≡ 50 ∷ 53 ∷ 48 ∷ []
unfolding shape_text shape_of whole_shape point_shape power_shape places_text power_text decimal places_of digits glyph_of
whole = refl

-- `10000000000000000`: the widest whole number, and the next
widest : shape_text (shape_of 1 1216) ≡ 49 ∷ 48 ∷ 48 ∷ 48 ∷ 48 ∷ 48 ∷ 48 ∷ 48 ∷ 48 ∷ 48 ∷ 48 ∷ 48 ∷ 48 ∷ 48 ∷ 48 ∷ 48 ∷ 48 ∷ []
unfolding shape_text shape_of whole_shape point_shape power_shape places_text power_text decimal places_of digits glyph_of
widest = refl

-- `1e17`
past_widest : shape_text (shape_of 1 1217) ≡ 49 ∷ 101 ∷ 49 ∷ 55 ∷ []
unfolding shape_text shape_of whole_shape point_shape power_shape places_text power_text decimal places_of digits glyph_of
past_widest = refl

-- `1.370171633266872`
fraction : shape_text (shape_of 1370171633266872 1185)
    ≡ 49 ∷ 46 ∷ 51 ∷ 55 ∷ 48 ∷ 49 ∷ 55 ∷ 49 ∷ 54 ∷ 51 ∷ 51 ∷ 50 ∷ 54 ∷ 54 ∷ 56 ∷ 55 ∷ 50 ∷ []
unfolding shape_text shape_of whole_shape point_shape power_shape places_text power_text decimal places_of digits glyph_of
fraction = refl

-- `0.00001`: four zeros, and one more
low : shape_text (shape_of 1 1195) ≡ 48 ∷ 46 ∷ 48 ∷ 48 ∷ 48 ∷ 48 ∷ 49 ∷ []
unfolding shape_text shape_of whole_shape point_shape power_shape places_text power_text decimal places_of digits glyph_of
low = refl

-- `1e-6`
lower : shape_text (shape_of 1 1194) ≡ 49 ∷ 101 ∷ 45 ∷ 54 ∷ []
unfolding shape_text shape_of whole_shape point_shape power_shape places_text power_text decimal places_of digits glyph_of
lower = refl

-- `6.02e23`
power : shape_text (shape_of 602 1221) ≡ 54 ∷ 46 ∷ 48 ∷ 50 ∷ 101 ∷ 50 ∷ 51 ∷ []
unfolding shape_text shape_of whole_shape point_shape power_shape places_text power_text decimal places_of digits glyph_of
power = refl

-- `5e-324`
least : shape_text (shape_of 5 876) ≡ 53 ∷ 101 ∷ 45 ∷ 51 ∷ 50 ∷ 52 ∷ []
unfolding shape_text shape_of whole_shape point_shape power_shape places_text power_text decimal places_of digits glyph_of
least = refl

-- no bound below 23 would do: `2.2250738585072014e-308`
longest : length (shape_text (shape_of 22250738585072014 876)) ≡ 23
unfolding shape_text shape_of whole_shape point_shape power_shape places_text power_text decimal places_of digits glyph_of
longest = refl
