-- ln_1p of an f64 from -3/4 to 3/4: the whole-number rule's answer, rounded once (document 01, "What the leaves mean").
-- Definitions only.
use Rattle.std.specs.Prelude.{ℕ, ◌+◌, ◌-◌, ◌^◌, Bool, cond, nat_le, nat_lt, to_bits, Float}
use Rattle.std.specs.Float.{nan, binary64}
use Rattle.std.specs.Float.Ieee.{round}
use Rattle.enclosure.specs.Rules.{T-answer, gain_seed, loss_seed}
use Rattle.series.specs.Pattern.{negative, size_bits, field, digits}

-- the patterns of 2 ^ -54 and 3/4
abbrev pub tiny : ℕ
tiny = 0x3c90_0000_0000_0000

abbrev pub last : ℕ
last = 0x3fe8_0000_0000_0000

-- The size is digits * 2 ^ -(53 + j), where the field is 1022 - j.
abbrev pub seed : Bool → ℕ → ℕ → ℕ
seed s j m = cond s (loss_seed j m) (gain_seed j m)

abbrev pub ln_1p_of : Bool → ℕ → Float
ln_1p_of s a = let j = 1022 - field a in round binary64 s (T-answer j (seed s j (digits a))) (2 ^ (61 + j))

-- x has the sign s, and its size the pattern a. Small numbers, zeros among them, are their own ln_1p; past 3/4 there is no
-- answer.
abbrev pub ln_1p_at : Float → Bool → ℕ → Float
ln_1p_at x s a = cond (nat_lt a tiny) x (cond (nat_le a last) (ln_1p_of s a) nan)

unfoldable pub ln_1p : Float → Float
ln_1p x = let b = to_bits binary64 x in ln_1p_at x (negative b) (size_bits b)
