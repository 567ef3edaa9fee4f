-- Numbers in groups of seven bits (document 02, 2026-03). Definitions only.
use Rattle.std.specs.Prelude.{ℕ, zero, suc, ◌+◌, ◌-◌, ◌*◌, ◌/◌, ◌%◌, cond, List, Result, Ok, Err, [], ◌∷◌, eqb, ltb, drop}
use Rattle.packed_number.specs.declared.Number.{Number}
use Rattle.refusals.specs.declared.Refusal.{Refusal}
use Rattle.refusals.specs.declared.Refusal.TheVariants.{ListCut, NumberBad}

-- a number that was read whole
abbrev pub whole : ℕ → ℕ → Result Number Refusal
whole value next = Ok (record { value = value; next = next })

-- "in groups of seven bits, low group first, top bit set while more follow": n, where so many more may follow the first
unfoldable pub groups_of : ℕ → ℕ → List ℕ
groups_of zero n = n ∷ []
groups_of (suc left) n = cond (ltb n 128) (n ∷ []) ((128 + n % 128) ∷ groups_of left (n / 128))

-- ten groups hold 64 bits
unfoldable pub number_bytes : ℕ → List ℕ
number_bytes n = groups_of 9 n

-- "shortest form only": a last group of zero stands alone
unfoldable pub last_group : ℕ → ℕ → ℕ → ℕ → Result Number Refusal
last_group weight value next group =
    cond (eqb group 0) (cond (ltb 1 weight) (Err NumberBad) (whole value next)) (whole (value + group * weight) next)

-- what is read group by group: how many more may follow this one, its weight, the value so far, its place. The tenth has the
-- one bit that is left of 64, and is not zero. "14 is given where the bytes seen so far are good"
unfoldable pub number_from : ℕ → ℕ → ℕ → ℕ → List ℕ → Result Number Refusal
number_from zero weight value at [] = Err ListCut
number_from zero weight value at (b ∷ bs) = cond (eqb b 1) (whole (value + weight) (at + 1)) (Err NumberBad)
number_from (suc left) weight value at [] = Err ListCut
number_from (suc left) weight value at (b ∷ bs) =
    cond (ltb b 128) (last_group weight value (at + 1) b) (number_from left (weight * 128) (value + (b - 128) * weight) (at + 1) bs)

-- the number at a place
unfoldable pub number_at : List ℕ → ℕ → Result Number Refusal
number_at bytes place = number_from 9 1 0 place (drop place bytes)
