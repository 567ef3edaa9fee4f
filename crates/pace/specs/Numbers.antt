-- The numbers of a line of progress. Definitions only.
use Rattle.std.specs.Prelude.{ℕ, ◌+◌, ◌-◌, ◌*◌, ◌/◌, ◌^◌, Bool, true, false, cond, List, [], ◌∷◌, leb, ltb, eqb}

-- whether a share can be told
unfoldable pub known_of : ℕ → Bool
known_of size = cond (eqb size 0) false (leb size (2 ^ 57))

-- what part was read, in whole hundredths; no more than all of it
unfoldable pub percent_of : ℕ → ℕ → ℕ
percent_of read size = cond (leb size read) 100 (cond (leb size (2 ^ 57)) (read * 100 / size) 0)

-- how much later is more than earlier; of whole numbers, so that it is 0 where it is less
abbrev pub since_of : ℕ → ℕ → ℕ
since_of later earlier = later - earlier

-- how much was done in a second since the line before
unfoldable pub rate_of : ℕ → ℕ → ℕ → ℕ → ℕ
rate_of done before now then = cond (leb now then) (since_of done before) (since_of done before / (now - then))

-- whether the clock is asked after a block: it was not full, or a multiple of 16,384 bytes was passed
unfoldable pub due_of : ℕ → ℕ → ℕ → ℕ → Bool
due_of length size before after = cond (ltb size length) true (ltb (before / 16384) (after / 16384))

-- whether a byte ends a line, as a number
unfoldable pub ends_of : ℕ → ℕ
ends_of b = cond (eqb b 10) 1 0

-- how many of these bytes end a line
unfoldable pub newlines : List ℕ → ℕ
newlines [] = 0
newlines (b ∷ bs) = ends_of b + newlines bs
