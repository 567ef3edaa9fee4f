-- ln of an f64: the whole-number rule's answer, rounded once (document 01, "What the leaves mean"; document 02, 2026-02).
-- Definitions only.
use Rattle.std.specs.Prelude.{ℕ, ◌+◌, ◌-◌, ◌*◌, ◌^◌, Bool, true, false, cond, ◌==◌, from_bits, nat_lt, to_bits, Float}
use Rattle.std.specs.Float.{nan, inf, binary64}
use Rattle.std.specs.Float.Ieee.{size, round}
use Rattle.rounding.specs.Cut.{infinity}
use Rattle.enclosure.specs.Rules.{ln_answer, ln_below_answer, gain_answer, loss_answer}
use Rattle.series.specs.Pattern.{field, digits}

-- the patterns of 1/2, 1 and 2, and of -0
abbrev pub half : ℕ
half = 0x3fe0_0000_0000_0000

abbrev pub one : ℕ
one = 0x3ff0_0000_0000_0000

abbrev pub two : ℕ
two = 0x4000_0000_0000_0000

abbrev pub minus_zero : ℕ
minus_zero = 0x8000_0000_0000_0000

-- From 2 up x is digits * 2 ^ (e - 52), e is 1 at least and has b binary digits: the answer in parts of 2 ^ -(63 - b)
abbrev pub ln_from_two : ℕ → ℕ → Float
ln_from_two e m = round binary64 false (ln_answer (size e) e m) (2 ^ (63 - size e))

-- Between 1/2 and 2 the distance from 1 is n parts of 2 ^ -53, n of 53 - j binary digits: the answer in parts of 2 ^ -(61 + j).
-- With the sign s, below 1.
abbrev pub close_answer : Bool → ℕ → ℕ → ℕ
close_answer s j n = cond s (loss_answer j n) (gain_answer j n)

abbrev pub ln_close : Bool → ℕ → Float
ln_close s n = let j = 53 - size n in round binary64 s (close_answer s j n) (2 ^ (61 + j))

-- Below 1/2 x is m * 2 ^ -(e + 53), 2 ^ 52 ≤ m < 2 ^ 53, where e is 1 at least: the answer as from 2 up
abbrev pub ln_below_half : ℕ → ℕ → Float
ln_below_half e m = round binary64 true (ln_below_answer (size e) e m) (2 ^ (63 - size e))

-- m and e of a pattern b. A subnormal number's digits are shifted up, until there are 53.
abbrev pub full_digits : ℕ → ℕ
full_digits b = cond (nat_lt b (2 ^ 52)) (b * 2 ^ (53 - size b)) (digits b)

abbrev pub below_exponent : ℕ → ℕ
below_exponent b = cond (nat_lt b (2 ^ 52)) (1074 - size b) (1022 - field b)

-- by the pattern, below 2. Patterns count parts: from b up to 1's, of 2 ^ -53; and from 1's up to b, of 2 ^ -52.
abbrev pub ln_below_two : ℕ → Float
ln_below_two b =
    cond (b == 0) (inf true)
    (cond (nat_lt b half) (ln_below_half (below_exponent b) (full_digits b))
    (cond (nat_lt b one) (ln_close true (one - b))
    (cond (b == one) (from_bits binary64 0)
    (ln_close false (2 * (b - one))))))

-- by the pattern; past the infinity, where the NaNs and all numbers with a sign lie, only -0 has an answer
abbrev pub ln_at : ℕ → Float
ln_at b =
    cond (nat_lt b two) (ln_below_two b)
    (cond (nat_lt b infinity) (ln_from_two (field b - 1023) (digits b))
    (cond (b == infinity) (inf false)
    (cond (b == minus_zero) (inf true)
    nan)))

unfoldable pub ln : Float → Float
ln x = ln_at (to_bits binary64 x)
