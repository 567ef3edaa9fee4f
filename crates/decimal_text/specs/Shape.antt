-- How a decimal d * 10 ^ (t - 1200) is laid out for people: a whole part, places after a point, a power of ten. Definitions only.
use Rattle.std.specs.Prelude.{ℕ, ◌+◌, ◌-◌, ◌*◌, ◌/◌, ◌%◌, ◌^◌, false, ◌&&◌, cond, List, [], ◌∷◌, ◌++◌, eqb, ltb, leb}
use Rattle.digits.specs.Digits.{digits}
use Rattle.writing.specs.Decimal.{places_of, decimal}
use Rattle.decimal.specs.Decimal.{ones}
use Rattle.decimal_text.specs.declared.shape.Shape.{Shape}

-- a whole number: `250`
unfoldable pub whole_shape : ℕ → ℕ → Shape
whole_shape d t = record { whole = d * 10 ^ (t - ones); places = 0; part = 0; below = false; power = 0 }

-- k places after the point: `1.370171633266872`, `0.001`
unfoldable pub point_shape : ℕ → ℕ → Shape
point_shape d k = record { whole = d / 10 ^ k; places = k; part = d % 10 ^ k; below = false; power = 0 }

-- one digit before the point, k after it, and the power of ten: `6.02e23`, `5e-324`
unfoldable pub power_shape : ℕ → ℕ → ℕ → Shape
power_shape d k t = record {
  whole = d / 10 ^ k;
  places = k;
  part = d % 10 ^ k;
  below = ltb (k + t) ones;
  power = (k + t - ones) + (ones - (k + t));
}

-- up to 17 digits before the point, and up to four zeros after it; all else with a power
unfoldable pub shape_of : ℕ → ℕ → Shape
shape_of d t =
    let n = places_of 19 d in
    cond (leb ones t && leb (n + t) 1217) (whole_shape d t)
    (cond (ltb t ones && ltb 1195 (n + t)) (point_shape d (ones - t)) (power_shape d (n - 1) t))

-- ---- its text
unfoldable pub places_text : Shape → List ℕ
places_text s = cond (eqb s.places 0) [] (46 ∷ digits 10 s.places s.part)

unfoldable pub power_text : Shape → List ℕ
power_text s = cond (eqb s.power 0) [] (101 ∷ (cond s.below (45 ∷ []) [] ++ decimal 9 s.power))

unfoldable pub shape_text : Shape → List ℕ
shape_text s = decimal 19 s.whole ++ (places_text s ++ power_text s)
