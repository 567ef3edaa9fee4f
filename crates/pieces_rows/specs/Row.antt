-- What the tables hold, at every argument. Definitions only; `row` is enclosure's.
use Rattle.std.specs.Prelude.{ℕ, cond, List, [], ◌∷◌, ltb}
use Rattle.enclosure.specs.Pieces.{Series, pieces, row}
use Rattle.pieces_rows.specs.declared.row.Row.{Row}

-- a row of the code as a list
abbrev pub listed : Row → List ℕ
listed r = r.0 ∷ r.1 ∷ r.2 ∷ r.3 ∷ r.4 ∷ r.5 ∷ r.6 ∷ r.7 ∷ r.8 ∷ r.9 ∷ r.10 ∷ r.11 ∷ []

-- past the table there are zeros
abbrev pub row_or_none : Series → ℕ → List ℕ
row_or_none s i = cond (ltb i (pieces s)) (row s i) (0 ∷ 0 ∷ 0 ∷ 0 ∷ 0 ∷ 0 ∷ 0 ∷ 0 ∷ 0 ∷ 0 ∷ 0 ∷ 0 ∷ [])
