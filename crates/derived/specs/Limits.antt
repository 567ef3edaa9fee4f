-- The limits of document 01, Rescaling, named here for the definitions; shown is that they are what it says. Assumes nothing.
use Rattle.std.specs.Prelude.{◌≡◌, refl, true, Float}
use Rattle.std.specs.Float.Ieee.{of_bits, div, lt}
use Rattle.rounding.specs.Cut.{value, rounded}
use Rattle.binary64.specs.Operators.{◌⊘◌, bits}
use Rattle.root.specs.Root.{root}

-- "bits 47EFFFFFFFFFFFFF, just under 2^128": 3.4028236692093843e38
abbrev pub limit : Float
limit = bits 0x47EF_FFFF_FFFF_FFFF

-- "Its rounded reciprocal is 37F0000000000001", just above 2^-128: 2.9387358770557194e-39
abbrev pub reciprocal : Float
reciprocal = bits 0x37F0_0000_0000_0001

-- ---- what they are
-- the largest f64, just under 2 ^ 1024
abbrev pub greatest : Float
greatest = bits 0x7FEF_FFFF_FFFF_FFFF
