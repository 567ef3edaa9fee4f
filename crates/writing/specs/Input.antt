-- The lines of an input. Definitions only.
use Rattle.std.specs.Prelude.{ℕ, cond, List, [], ◌∷◌, ◌++◌, eqb}

-- a line ends at a newline, or with the input where something is left there
unfoldable pub last_line : List ℕ → List (List ℕ)
last_line [] = []
last_line (b ∷ l) = (b ∷ l) ∷ []

-- the lines of the input, where `begun` is what came of the first
unfoldable pub lines_from : List ℕ → List ℕ → List (List ℕ)
lines_from begun [] = last_line begun
lines_from begun (b ∷ bs) = cond (eqb b 10) (begun ∷ lines_from [] bs) (lines_from (begun ++ b ∷ []) bs)
