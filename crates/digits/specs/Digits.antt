-- Numbers as digits in a base up to 16, upper case: how they are written and how they are read. Definitions only.
use Rattle.std.specs.Prelude.{ℕ, zero, suc, ◌+◌, ◌-◌, ◌*◌, ◌/◌, ◌%◌, cond, Option, Some, None, List, [], ◌∷◌, ◌++◌, ltb, leb, ◌&&◌, length}

-- the byte of a digit below 16: `0` to `9`, then `A` to `F`
unfoldable pub glyph_of : ℕ → ℕ
glyph_of d = cond (ltb d 10) (48 + d) (55 + d)

-- the digit that a byte is, and 16 for every other byte
unfoldable pub digit_of : ℕ → ℕ
digit_of b = cond (ltb b 48) 16 (cond (ltb b 58) (b - 48) (cond (ltb b 65) 16 (cond (ltb b 71) (b - 55) 16)))

-- the last k digits of n, the most significant first
unfoldable pub digits : ℕ → ℕ → ℕ → List ℕ
digits base zero n = []
digits base (suc k) n = digits base k (n / base) ++ (glyph_of (n % base) ∷ [])

-- the number that begins with v and goes on with these digits, if digits is what they are
unfoldable pub number_from : ℕ → ℕ → List ℕ → Option ℕ
number_from base v [] = Some v
number_from base v (b ∷ bs) = cond (ltb (digit_of b) base) (number_from base (v * base + digit_of b) bs) None

-- of at most sixteen bytes, whose digits fill a word, in a base from 2 to 16; none of any other
unfoldable pub number_of : ℕ → List ℕ → Option ℕ
number_of base bs = cond (leb (length bs) 16 && (ltb 1 base && leb base 16)) (number_from base 0 bs) None

-- a word as the listing has it: a blank and the pattern's sixteen digits
unfoldable pub word_text : ℕ → List ℕ
word_text x = 32 ∷ digits 16 16 x
