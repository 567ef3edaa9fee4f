-- How large atan, ln and ln(1 + a) - ln(1 - a) are at an argument of 2 ^ -90 to 2 ^ 526, above 1 for ln: from 2 ^ -104 to
-- 2 ^ 16, or no number. A rule's answer has 60 to 64 digits of a known part (`Sizes`), so its size is known within a few
-- powers of two. Assumes nothing.
use Rattle.std.specs.Prelude.{ℕ, ◌+◌, ◌-◌, ◌*◌, ◌/◌, ◌^◌, ◌≤◌, ◌<◌, ◌≡◌, Bool, true, false, ◌⊎◌, Float}
use Rattle.std.proofs.Common.{sym, ◌∙◌, subst, inl, inr, le_trans, le_of_lt, le_of_eq, not-le_of_lt, pow_mono}
use Rattle.std.proofs.Math.Path.{ap}
use native.Mathlib.Omega.{arith}
use Rattle.std.proofs.Math.Dec.{lit≤, lit<}
use Rattle.std.specs.Float.{nan}
use Rattle.std.specs.Float.Ieee.{binary64, size, round, neg, add, sub, to_bits}
use Rattle.std.specs.Float.Ieee.Scale.{overflow}
use Rattle.algebra.specs.Order.{lt_or_le}
use Rattle.rounding.specs.Cut.{infinity, value}
use Rattle.rounding.proofs.Value.{value_lt}
use Rattle.rounding.specs.Sign.{bits_neg}
use Rattle.enclosure.specs.Rules.{atan_answer, half_pi, steep_answer, T-answer, gain_seed, loss_seed, ln_answer, gain_answer}
use Rattle.enclosure.proofs.Sizes.{atan_size, atan_fits, steep_size, T-size, T-fits, gain_size, loss_size, above_one_size}
use Rattle.enclosure.specs.Enclosure.{gain, loss}
use Rattle.series.specs.Pattern.{size_bits, field, digits}
use Rattle.series.specs.Near.{number}
use Rattle.series.specs.Atan.{atan}
use Rattle.series.specs.Atan as arc
use Rattle.series.specs.Ln.{ln}
use Rattle.series.specs.Ln as logarithm
use Rattle.series.specs.Ln1p.{ln_1p}
use Rattle.series.specs.Ln1p as one-plus
use Rattle.series.proofs.Cases as cases
use Rattle.series.specs.Exponents.{full_low, full_high, digits_most, answer_fits, answer_size}
use Rattle.series.proofs.Arguments.{one_is, above_one, inverse_is, seed_above, seed_below}
use Rattle.series.specs.Names.{signed_bits}
use Rattle.scaling.specs.Units.{Is, neg_units}
use Rattle.leaf_bounds.specs.Pattern.{pattern, bits_are, named, value_back}
use Rattle.leaf_bounds.specs.Rounded.{Powers, rounded_between, sum_between}

-- the powers of two in units of 2 ^ -1074: the argument's, and the answer's
abbrev pub least : ℕ
least = 984

abbrev pub most : ℕ
most = 1600

abbrev pub low : ℕ
low = 971

abbrev pub high : ℕ
high = 1089
