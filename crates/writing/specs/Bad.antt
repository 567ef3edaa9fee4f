-- What is said of a line that is none of those asked for. Definition only.
use Rattle.std.specs.Prelude.{ℕ, List, [], ◌∷◌}

-- "bad line", and the line's end
abbrev pub bad_text : List ℕ
bad_text = 98 ∷ 97 ∷ 100 ∷ 32 ∷ 108 ∷ 105 ∷ 110 ∷ 101 ∷ 10 ∷ []
