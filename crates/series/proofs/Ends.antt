-- The answers where there is no enclosure (document 01, "What the leaves mean"): at the infinities, at NaN, and outside the
-- ranges. And atan at the infinities is the f64 nearest π/2. Assumes nothing.
use Rattle.std.specs.Prelude.{◌≡◌, ℕ, ◌+◌, ◌-◌, ◌<◌, true, false, refl, Float}
use Rattle.std.proofs.Common.{sym, arith, leb→le}
use Rattle.std.specs.Float.{nan, inf, binary64}
use Rattle.std.specs.Float.Ieee.{of_bits, to_bits, round}
use Rattle.rounding.specs.Cut.{value}
use Rattle.rounding.specs.Laws.{middle}
use Rattle.enclosure.specs.Quotient.{Quotient, ◌≼◌, whole, parts, ◌⊞◌, ◌⊠◌}
use Rattle.enclosure.specs.Order.{≼_refl, ≼_trans, ⊞-mono}
use Rattle.enclosure.specs.Enclosure.{atan_lower, atan_upper, fifth, part_of_239}
use Rattle.enclosure.specs.Rules.{half_pi}
use Rattle.enclosure.proofs.Constants.{half_pi_low, half_pi_high}
use Rattle.series.specs.Pattern.{size_bits}
use Rattle.series.specs.Near.{signed}
use Rattle.series.specs.Atan.{atan}
use Rattle.series.specs.Ln.{one, minus_zero, ln}
use Rattle.series.specs.Ln1p.{last, ln_1p}
use Rattle.series.proofs.Cases as cases
use Rattle.series.specs.Ends.{before_upper, half_pi_bits, past_lower}

-- ---- NaN
pub atan_nan : atan nan ≡ nan
unfolding atan to_bits
atan_nan = refl

pub ln_nan : ln nan ≡ nan
unfolding ln to_bits
ln_nan = refl

pub ln_1p_nan : ln_1p nan ≡ nan
unfolding ln_1p to_bits
ln_1p_nan = refl

pub atan_infinity : atan (inf false) ≡ signed 0 half_pi_bits
unfolding atan to_bits of_bits round
atan_infinity = refl

pub atan_minus_infinity : atan (inf true) ≡ signed 1 half_pi_bits
unfolding atan to_bits of_bits round
atan_minus_infinity = refl

pub ln_of_infinity : ln (inf false) ≡ inf false
unfolding ln to_bits
ln_of_infinity = refl

pub ln_of_minus_infinity : ln (inf true) ≡ nan
unfolding ln to_bits
ln_of_minus_infinity = refl

pub ln_1p_infinities : (ln_1p (inf false) ≡ nan) × (ln_1p (inf true) ≡ nan)
unfolding ln_1p to_bits
ln_1p_infinities = (refl, refl)

-- ---- ln at 1 and at the zeros
pub ln_at_one : ln (signed 0 one) ≡ signed 0 0
unfolding ln to_bits of_bits
ln_at_one = refl

pub ln_at_zero : ln (signed 0 0) ≡ inf true
unfolding ln to_bits of_bits
ln_at_zero = refl

pub ln_at_minus_zero : ln (signed 1 0) ≡ inf true
unfolding ln to_bits of_bits
ln_at_minus_zero = refl

-- ---- outside the ranges
pub ln_1p_none : (x : Float) → last < size_bits (to_bits binary64 x) → ln_1p x ≡ nan
ln_1p_none x h = sym (cases.ln_1p_none x (to_bits binary64 x) refl (omega arith) h)

-- (a number below zero has a pattern past -0's, which is past the infinity's)
pub ln_negative : (x : Float) → minus_zero < to_bits binary64 x → ln x ≡ nan
ln_negative x h = sym (cases.ln_past x (to_bits binary64 x) refl (omega arith) (λ e. omega arith) (λ e. omega arith))

lower_middle : past_lower ≼ parts 62 half_pi
unfolding value
lower_middle = record { cross = leb→le _ _ tt }

upper_middle : parts 62 (half_pi + 1) ≼ before_upper
unfolding value
upper_middle = record { cross = leb→le _ _ tt }

pub half_pi_above : (n : ℕ) → past_lower ⊞ whole 2 ⊠ atan_lower part_of_239 n ≼ whole 8 ⊠ atan_upper fifth n
half_pi_above n = ≼_trans (⊞-mono lower_middle ≼_refl) (half_pi_low n)

pub half_pi_below : (n : ℕ) → whole 8 ⊠ atan_lower fifth n ≼ before_upper ⊞ whole 2 ⊠ atan_upper part_of_239 n
half_pi_below n = ≼_trans (half_pi_high n) (⊞-mono upper_middle ≼_refl)
