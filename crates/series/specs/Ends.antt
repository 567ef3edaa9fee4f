-- The answers where there is no enclosure (document 01, "What the leaves mean"): at the infinities, at NaN, and outside the
-- ranges. And atan at the infinities is the f64 nearest π/2. Assumes nothing.
use Rattle.std.specs.Prelude.{◌≡◌, ℕ, ◌+◌, ◌-◌, ◌<◌, true, false, refl, Float}
use Rattle.std.proofs.Common.{sym, arith, leb→le}
use Rattle.std.specs.Float.{nan, inf, binary64}
use Rattle.std.specs.Float.Ieee.{of_bits, to_bits, round}
use Rattle.rounding.specs.Cut.{value}
use Rattle.rounding.specs.Laws.{middle}
use Rattle.enclosure.specs.Quotient.{Quotient, ◌≼◌, whole, parts, ◌⊞◌, ◌⊠◌}
use Rattle.enclosure.specs.Order.{≼_refl, ≼_trans, ⊞-mono}
use Rattle.enclosure.specs.Enclosure.{atan_lower, atan_upper, fifth, part_of_239}
use Rattle.enclosure.specs.Rules.{half_pi}
use Rattle.enclosure.proofs.Constants.{half_pi_low, half_pi_high}
use Rattle.series.specs.Pattern.{size_bits}
use Rattle.series.specs.Near.{signed}
use Rattle.series.specs.Atan.{atan}
use Rattle.series.specs.Ln.{one, minus_zero, ln}
use Rattle.series.specs.Ln1p.{last, ln_1p}

-- ---- the infinities
abbrev pub half_pi_bits : ℕ
half_pi_bits = 0x3ff9_21fb_5444_2d18

-- ---- nearest to π/2 = 8 atan(1/5) - 2 atan(1/239): it lies past the middle to the pattern below, and before the middle to the
-- one above
abbrev pub past_lower : Quotient
past_lower = parts 1075 (middle (half_pi_bits - 1) half_pi_bits + 1)

abbrev pub before_upper : Quotient
before_upper = parts 1075 (middle half_pi_bits (half_pi_bits + 1) - 1)
