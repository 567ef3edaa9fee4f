-- A number that is written is read back, whatever follows it, and what is read whole is how that number is written. Assumes
-- nothing.
use Rattle.std.specs.Prelude.{ℕ, ◌+◌, ◌*◌, ◌^◌, ◌<◌, ◌≡◌, List, [], ◌∷◌, ◌++◌, length, drop}
use Rattle.packed_number.specs.Numbers.{groups_of}

-- a list of bytes
abbrev pub Bytes : List ℕ → Type 0
Bytes [] = Unit {0}
Bytes (b ∷ bs) = (b < 256) × Bytes bs

-- ---- what is read whole is how that number is written
-- the groups that are left make a number of their own, n, and stand at the front; `next` is the place after them
pub record Reads (left w v at : ℕ) (bytes : List ℕ) (x next : ℕ) : Type 0 where
  pub n : ℕ
  pub small : n < 2 * 128 ^ left
  pub some : 1 < w → 0 < n
  pub value : x ≡ v + n * w
  pub place : next ≡ at + length (groups_of left n)
  pub written : bytes ≡ groups_of left n ++ drop (length (groups_of left n)) bytes

-- ---- at a place of a list
-- what stands at a place, and the place after it
pub record Stands (l : List ℕ) (at : ℕ) (text : List ℕ) (next : ℕ) : Type 0 where
  pub bytes : drop at l ≡ text ++ drop next l
  pub place : next ≡ at + length text
