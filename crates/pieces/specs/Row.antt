-- What the functions of this crate answer, at every argument. Definitions only; `value` and `row` are enclosure's.
use Rattle.std.specs.Prelude.{ℕ, ◌+◌, ◌*◌, ◌/◌, ◌%◌, ◌^◌, cond, List, [], ◌∷◌, nat_lt}
use Rattle.enclosure.specs.Pieces.{Series, pieces, piece, value}

-- past the table there are zeros, and so is the sum
abbrev pub value_or_zero : Series → ℕ → ℕ
value_or_zero s x = cond (nat_lt (piece x) (pieces s)) (value s x) 0

-- Horner's rule as words do it
abbrev pub wrapped : ℕ → List ℕ → ℕ
wrapped d [] = 0
wrapped d (r ∷ []) = r
wrapped d (r ∷ q ∷ rs) = (r + d * wrapped d (q ∷ rs) / 2 ^ 64) % 2 ^ 64
