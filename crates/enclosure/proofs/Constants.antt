-- The two constants of the rules, by their enclosures: ln 2 = 2 T(1/3) by 19 terms, π/2 = 8 atan(1/5) - 2 atan(1/239) by 14.
-- Both are computed. Assumes nothing.
use Rattle.std.specs.Prelude.{ℕ, ◌+◌}
use Rattle.std.proofs.Common.{leb→le}
use Rattle.enclosure.specs.Quotient.{Quotient, ◌≼◌, whole, parts, ◌⊞◌, ◌⊠◌}
use Rattle.enclosure.specs.Order.{≼_refl, ≼_trans, ⊞-mono, ⊠-mono}
use Rattle.enclosure.specs.Enclosure.{sum, odd_power, euler_term, T-lower, T-upper, atan_lower, atan_upper, fifth, part_of_239, third, third_proper}
use Rattle.enclosure.proofs.Nested.{T-nested, atan_nested}
use Rattle.enclosure.specs.Rules.{ln_two, half_pi}

times_mono : (k : ℕ) {x y : Quotient} → x ≼ y → whole k ⊠ x ≼ whole k ⊠ y
times_mono k h = ⊠-mono ≼_refl h

-- ---- ln 2
ln_two_below : parts 63 ln_two ≼ whole 2 ⊠ T-lower third 19
unfolding T-lower sum odd_power
ln_two_below = record { cross = leb→le _ _ tt }

ln_two_above : whole 2 ⊠ T-upper third third_proper 19 ≼ parts 63 (ln_two + 1)
unfolding T-upper sum odd_power
ln_two_above = record { cross = leb→le _ _ tt }

pub ln_two_low : (n : ℕ) → parts 63 ln_two ≼ whole 2 ⊠ T-upper third third_proper n
ln_two_low n = ≼_trans ln_two_below (times_mono 2 (T-nested third third_proper 19 n))

pub ln_two_high : (n : ℕ) → whole 2 ⊠ T-lower third n ≼ parts 63 (ln_two + 1)
ln_two_high n = ≼_trans (times_mono 2 (T-nested third third_proper n 19)) ln_two_above

-- ---- π/2
half_pi_below : parts 62 half_pi ⊞ whole 2 ⊠ atan_upper part_of_239 14 ≼ whole 8 ⊠ atan_lower fifth 14
unfolding atan_lower atan_upper sum euler_term
half_pi_below = record { cross = leb→le _ _ tt }

half_pi_above : whole 8 ⊠ atan_upper fifth 14 ≼ parts 62 (half_pi + 1) ⊞ whole 2 ⊠ atan_lower part_of_239 14
unfolding atan_lower atan_upper sum euler_term
half_pi_above = record { cross = leb→le _ _ tt }

pub half_pi_low : (n : ℕ) → parts 62 half_pi ⊞ whole 2 ⊠ atan_lower part_of_239 n ≼ whole 8 ⊠ atan_upper fifth n
half_pi_low n =
    ≼_trans (⊞-mono ≼_refl (times_mono 2 (atan_nested part_of_239 n 14)))
    (≼_trans half_pi_below (times_mono 8 (atan_nested fifth 14 n)))

pub half_pi_high : (n : ℕ) → whole 8 ⊠ atan_lower fifth n ≼ parts 62 (half_pi + 1) ⊞ whole 2 ⊠ atan_upper part_of_239 n
half_pi_high n =
    ≼_trans (times_mono 8 (atan_nested fifth n 14))
    (≼_trans half_pi_above (⊞-mono ≼_refl (times_mono 2 (atan_nested part_of_239 14 n))))
