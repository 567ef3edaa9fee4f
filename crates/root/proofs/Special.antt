-- What the tests of `sqrt` tell of the root where x is no number above zero. Assumes nothing.
use Rattle.std.proofs.Common.{◌≡◌, zero, suc, ◌≤◌, true, false, T, sym, refl, ap, ◌∙◌, true≢false}
use lib.Ieee.{Float, nan, inf, fin, binary64, fits, lt, eq, of_bits, to_bits}
use Rattle.rounding.specs.Cut.{infinity}
use Rattle.binary64.specs.Tests.{zero_above, Zero, a_zero, is_zero, zero_is, above_all, number_above}
use Rattle.root.specs.Root.{root}

pub root_of_infinity : (x : Float) → T (fits binary64 x) → infinity ≤ to_bits binary64 x → lt zero_above x ≡ true → x ≡ root x
unfolding root
root_of_infinity x f l h = let i = above_all x f l h in i ∙ ap root (sym i)

pub root_of_zero : (x : Float) → eq x zero_above ≡ true → x ≡ root x
root_of_zero x h = go (is_zero x h)
  where
    go : {x : Float} → Zero x → x ≡ root x
    go (a_zero s e) = unfold root in refl

pub root_of_rest : (x : Float) → lt zero_above x ≡ false → eq x zero_above ≡ false → nan ≡ root x
unfolding root
root_of_rest nan h k = refl
root_of_rest (inf true) h k = refl
root_of_rest (inf false) h k = absurd (true≢false (sym above ∙ h))
  where
    above : lt zero_above (inf false) ≡ true
    above = unfold lt of_bits in refl
root_of_rest (fin s zero e) h k = absurd (true≢false (sym (zero_is s e) ∙ k))
root_of_rest (fin false (suc m) e) h k = absurd (true≢false (sym (number_above m e) ∙ h))
root_of_rest (fin true (suc m) e) h k = refl
