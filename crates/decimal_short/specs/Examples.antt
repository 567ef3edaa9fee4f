-- Some f64s and their shortest decimals, computed: the place by a test of it and of the next. Assumes nothing.
use Rattle.std.specs.Prelude.{ℕ, suc, ◌≡◌, refl, true, false, T, leb}
use Rattle.std.proofs.Math.Path.{ap}
use Rattle.std.proofs.Common.{◌∙◌, leb→le}
use Rattle.std.specs.Float.Ieee.{binary64, round, of_bits, to_bits}
use Rattle.std.specs.Float.Ieee.Bits.{of_bits-fits}
use Rattle.std.specs.Float.Ieee.Positive.{positive}
use Rattle.decimal.specs.Decimal.{decimal_of}
use Rattle.decimal_short.specs.Shortest.{reads, within, told, most, place_of, past_middle, chosen_at, shortest}

-- the shortest decimal of the pattern n is d * 10 ^ (t - 1200)
abbrev pub Written : ℕ → ℕ → ℕ → Type 0
Written n d t = (place_of (of_bits binary64 n) ≡ t) × (shortest (of_bits binary64 n) ≡ d)
