-- The digits of a number as they come. Definitions only.
use Rattle.std.specs.Prelude.{ℕ, ◌+◌, ◌*◌, ◌^◌, Bool, ◌&&◌, ◌||◌, cond, eqb, ltb}
use Rattle.decimal_scan.specs.declared.figures.Figures.{Figures}

abbrev pub many : ℕ
many = 2 ^ 32

-- "digits at most 800 with leading and trailing zeros not counted"
abbrev pub significant : ℕ
significant = 800

unfoldable pub no_figures : Figures
no_figures = record { digits = 0; kept = 0; value = 0 }

-- the number that the first 19 digits are, the first of them not being 0
unfoldable pub first_of : ℕ → ℕ → ℕ
first_of value d = cond (ltb value 1000000000000000000) (value * 10 + d) value

unfoldable pub grown_by : Figures → ℕ → Figures
grown_by f d = record { digits = f.digits + 1; kept = cond (eqb d 0) f.kept (f.digits + 1); value = first_of f.value d }

-- zeros in front count for nothing
unfoldable pub figures_after : Figures → ℕ → Figures
figures_after f d = cond (eqb f.digits 0) (cond (eqb d 0) f (grown_by f d)) (grown_by f d)

-- a digit may follow: a 0 always, as far as anyone counts, another while no more than 800 count
unfoldable pub room_for : ℕ → ℕ → ℕ → Bool
room_for digits places d = ltb digits many && (ltb places many && (eqb d 0 || ltb digits significant))
