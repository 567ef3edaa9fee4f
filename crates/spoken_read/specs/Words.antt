-- The words of a line: what lies between blanks, tabs and a carriage return. Definitions only.
use Rattle.std.specs.Prelude.{ℕ, suc, ◌+◌, ◌-◌, Bool, true, cond, List, [], ◌∷◌, take, drop, ◌==◌}

unfoldable pub is_blank : ℕ → Bool
is_blank b = cond (b == 32) true (cond (b == 9) true (b == 13))

-- how many blanks a text begins with, and how many bytes that are none
unfoldable pub blanks : List ℕ → ℕ
blanks [] = 0
blanks (b ∷ l) = cond (is_blank b) (suc (blanks l)) 0

unfoldable pub letters : List ℕ → ℕ
letters [] = 0
letters (b ∷ l) = cond (is_blank b) 0 (suc (letters l))

-- where the next word begins from a place on, or the line's end
unfoldable pub begins_at : List ℕ → ℕ → ℕ
begins_at line at = at + blanks (drop at line)

-- where the word ends that begins at a place
unfoldable pub ends_at : List ℕ → ℕ → ℕ
ends_at line at = suc at + letters (drop (suc at) line)

unfoldable pub word_at : List ℕ → ℕ → List ℕ
word_at line at = take (ends_at line at - at) (drop at line)
