-- One group more of a number, read or written. Assumes nothing.
use Rattle.std.specs.Prelude.{ℕ}

-- 128 ^ 9, the weight of a tenth group
abbrev pub tenth : ℕ
tenth = 9223372036854775808
