-- The text of an f64: the shortest decimal that reads back. Definitions only.
use Rattle.std.specs.Prelude.{ℕ, zero, suc, Bool, false, cond, List, [], ◌∷◌, ◌++◌, Float}
use Rattle.std.specs.Float.{nan, inf, fin}
use Rattle.decimal_short.specs.Shortest.{place_of, shortest}
use Rattle.decimal_text.specs.Shape.{shape_of, shape_text}

unfoldable pub sign_text : Bool → List ℕ
sign_text s = cond s (45 ∷ []) []

-- of an f64 above zero
unfoldable pub size_text : Float → List ℕ
size_text x = shape_text (shape_of (shortest x) (place_of x))

-- `nan`, `inf`, `-inf`, `0`, `-0`, and all others by their size
unfoldable pub text_of : Float → List ℕ
text_of nan = 110 ∷ 97 ∷ 110 ∷ []
text_of (inf s) = sign_text s ++ (105 ∷ 110 ∷ 102 ∷ [])
text_of (fin s zero e) = sign_text s ++ (48 ∷ [])
text_of (fin s (suc m) e) = sign_text s ++ size_text (fin false (suc m) e)
