-- What the tests of `pow_neg_3_2` tell of the power where a is no number above zero. Assumes nothing.
use Rattle.std.proofs.Common.{◌≡◌, zero, suc, ◌≤◌, true, false, T, sym, refl, ap, ◌∙◌, true≢false}
use lib.Ieee.{Float, nan, inf, fin, binary64, fits, lt, eq, of_bits, to_bits}
use Rattle.rounding.specs.Cut.{infinity}
use Rattle.rounding.proofs.Value.{infinity_is}
use Rattle.binary64.specs.Tests.{zero_above, Zero, a_zero, is_zero, zero_is, above_all, number_above}
use Rattle.power.specs.Power.{power}

pub power_of_infinity : (x : Float) → T (fits binary64 x) → infinity ≤ to_bits binary64 x → lt zero_above x ≡ true
    → zero_above ≡ power x
power_of_infinity x f l h = at ∙ ap power (sym (above_all x f l h))
  where
    at : zero_above ≡ power (inf false)
    at = unfold power of_bits in refl

pub power_of_zero : (x : Float) → eq x zero_above ≡ true → of_bits binary64 infinity ≡ power x
power_of_zero x h = infinity_is ∙ go (is_zero x h)
  where
    go : {x : Float} → Zero x → inf false ≡ power x
    go (a_zero s e) = unfold power in refl

pub power_of_rest : (x : Float) → lt zero_above x ≡ false → eq x zero_above ≡ false → nan ≡ power x
unfolding power
power_of_rest nan h k = refl
power_of_rest (inf true) h k = refl
power_of_rest (inf false) h k = absurd (true≢false (sym above ∙ h))
  where
    above : lt zero_above (inf false) ≡ true
    above = unfold lt of_bits in refl
power_of_rest (fin s zero e) h k = absurd (true≢false (sym (zero_is s e) ∙ k))
power_of_rest (fin false (suc m) e) h k = absurd (true≢false (sym (number_above m e) ∙ h))
power_of_rest (fin true (suc m) e) h k = refl
