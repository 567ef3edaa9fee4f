-- The limits of document 01, Rescaling, named here for the definitions; shown is that they are what it says. Assumes nothing.
use Rattle.std.specs.Prelude.{◌≡◌, refl, true, Float}
use Rattle.std.specs.Float.Ieee.{of_bits, div, lt}
use Rattle.rounding.specs.Cut.{value, rounded}
use Rattle.binary64.specs.Operators.{◌⊘◌, bits}
use Rattle.root.specs.Root.{root}
use Rattle.derived.specs.Limits.{greatest, limit, reciprocal}

-- "the eighth root of the largest f64, taken as three rounded square roots"
pub limit_is : root (root (root greatest)) ≡ limit
unfolding root rounded value of_bits
limit_is = refl

-- (1 over the limit)
pub reciprocal_is : bits 0x3FF0_0000_0000_0000 ⊘ limit ≡ reciprocal
unfolding div of_bits
reciprocal_is = refl

-- "So 2^128 and 2^-128 are rescaled."
pub rescaled_from : lt limit (bits 0x47F0_0000_0000_0000) ≡ true
unfolding of_bits lt
rescaled_from = refl

pub rescaled_to : lt (bits 0x37F0_0000_0000_0000) reciprocal ≡ true
unfolding of_bits lt
rescaled_to = refl
