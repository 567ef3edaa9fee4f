-- A number in decimal. Definitions only.
use Rattle.std.specs.Prelude.{ℕ, zero, suc, ◌/◌, cond, List, ltb}
use Rattle.digits.specs.Digits.{digits}

-- in how many decimal digits n is written, up to as many more than one as are allowed
unfoldable pub places_of : ℕ → ℕ → ℕ
places_of zero n = 1
places_of (suc more) n = cond (ltb n 10) 1 (suc (places_of more (n / 10)))

-- n in decimal, with no zero in front: ten digits are enough for a u32, twenty for a u64
unfoldable pub decimal : ℕ → ℕ → List ℕ
decimal more n = digits 10 (places_of more n) n
