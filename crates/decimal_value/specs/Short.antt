-- Which decimal numbers are short. Definitions only.
use Rattle.std.specs.Prelude.{ℕ, ◌^◌, Bool, ◌&&◌, leb}

-- d and the power of ten, or its inverse, are f64s as they stand
unfoldable pub short : ℕ → ℕ → Bool
short d t = leb d (2 ^ 53) && (leb 1178 t && leb t 1222)
