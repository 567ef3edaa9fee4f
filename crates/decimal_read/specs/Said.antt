-- How a scanned text's f64 is found: so many of its digits are taken, and a power of ten. Definitions only.
use Rattle.std.specs.Prelude.{ℕ, ◌+◌, Bool, cond, ltb}

-- those up to the zeros at the end, if a word does not hold them; all, or the first 19
unfoldable pub leading_of : ℕ → ℕ → ℕ
leading_of digits kept = cond (ltb 19 kept) kept (cond (ltb digits 19) digits 19)

-- ten as often as digits are left out, and by the text's own power, counted from 1,200
unfoldable pub raised_by : ℕ → Bool → ℕ → ℕ
raised_by left below tens = left + cond below 0 tens + 1200

unfoldable pub lowered_by : ℕ → Bool → ℕ → ℕ
lowered_by places below tens = cond below tens 0 + places
