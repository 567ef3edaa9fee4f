-- Equal peaks do not decay: the decrement is +0. Assumes nothing.
use Rattle.std.specs.Prelude.{ℕ, ◌^◌, ◌≡◌, false, Ok}
use Rattle.std.proofs.Math.Path.{refl}
use Rattle.std.proofs.Common.{◌∙◌, arith}
use Rattle.std.specs.Float.{binary64}
use Rattle.std.specs.Float.Ieee.{round, of_bits, to_bits}
use Rattle.std.specs.Float.Ieee.Scale.{round_same}
use Rattle.algebra.specs.Ring.{con, ◌:*◌, ◌≈◌}
use Rattle.algebra.proofs.Ring.{ring}
use Rattle.binary64.specs.Operators.{bits}
use Rattle.series.specs.Ln.{ln}
use Rattle.swing.specs.Period.{ratio}
use Rattle.swing.specs.Ranges.{From1}
use Rattle.swing.proofs.Ranges.{within_from}
use Rattle.decay.specs.Quotients.{ratio_is}
use Rattle.decay.specs.Decrement.{decay_of}

-- the quotient of a number and itself is 1
ratio_same : (a : ℕ) → From1 a (2 ^ 53) → ratio a a ≡ round binary64 false 1 1
ratio_same a A =
    ratio_is a a A A
    ∙ round_same binary64 false a a 1 1 A.least (omega arith) (ring 1 (λ n. n :* con 1 ≈ con 1 :* n) tt a)

one_is : round binary64 false 1 1 ≡ bits 0x3FF0_0000_0000_0000
one_is = unfold round of_bits in refl

ln_of_one : ln (bits 0x3FF0_0000_0000_0000) ≡ bits 0
ln_of_one = unfold ln of_bits to_bits in refl

-- THE LAW: "0 where they are equal"
pub no_decay : (a : ℕ) → From1 a (2 ^ 53) → decay_of a a ≡ Ok (bits 0)
unfolding decay_of
no_decay a A = rw (within_from a (2 ^ 53) A, ratio_same a A, one_is, ln_of_one)
