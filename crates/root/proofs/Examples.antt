-- Roots that antt computes by the definition.
use Rattle.std.specs.Prelude.{◌≡◌, true, false, pos, negsuc, refl}
use Rattle.std.specs.Float.{nan, fin, binary64}
use Rattle.std.specs.Float.Ieee.{of_bits}
use Rattle.rounding.specs.Cut.{value, rounded}
use Rattle.root.specs.Root.{root}

-- √4 = 2
root_4 : root (fin false 1 (pos 2)) ≡ fin false 1 (pos 1)
unfolding root rounded value of_bits
root_4 = refl

-- √2, by its pattern
root_2 : root (fin false 1 (pos 1)) ≡ of_bits binary64 0x3ff6_a09e_667f_3bcd
unfolding root rounded value of_bits
root_2 = refl

-- the least f64 above 1 has the root 1, and the greatest below 1 is its own root
root_above_1 : root (of_bits binary64 0x3ff0_0000_0000_0001) ≡ fin false 1 (pos 0)
unfolding root rounded value of_bits
root_above_1 = refl

root_below_1 : root (of_bits binary64 0x3fef_ffff_ffff_ffff) ≡ of_bits binary64 0x3fef_ffff_ffff_ffff
unfolding root rounded value of_bits
root_below_1 = refl

-- the greatest f64, and the least, 2 ^ -1074
root_greatest : root (of_bits binary64 0x7fef_ffff_ffff_ffff) ≡ of_bits binary64 0x5fef_ffff_ffff_ffff
unfolding root rounded value of_bits
root_greatest = refl

root_least : root (fin false 1 (negsuc 1073)) ≡ fin false 1 (negsuc 536)
unfolding root rounded value of_bits
root_least = refl

-- -0 keeps its sign, and -1 has no root
root_minus_0 : root (of_bits binary64 0x8000_0000_0000_0000) ≡ of_bits binary64 0x8000_0000_0000_0000
unfolding root of_bits
root_minus_0 = refl

root_minus_1 : root (fin true 1 (pos 0)) ≡ nan
unfolding root
root_minus_1 = refl
