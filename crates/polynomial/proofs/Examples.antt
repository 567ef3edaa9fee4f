-- Values that antt computes by the definition.
use Rattle.std.specs.Prelude.{◌≡◌, refl, true, false, pos, negsuc}
use Rattle.std.specs.Float.{inf, fin, binary64}
use Rattle.std.specs.Float.Ieee.{of_bits, of_int, add, mul, div}
use Rattle.polynomial.specs.Polynomial.{coefficient, down, horner}

at_0 : horner (fin false 0 (pos 0)) ≡ fin false 1 (pos 0)
unfolding horner down coefficient of_int add mul div
at_0 = refl

-- 1 - 1/3 + 1/5 - .. + 1/17 and 1 + 1/6 + 1/20 + .. + 1/4352, by their patterns
at_1 : horner (fin false 1 (pos 0)) ≡ of_bits binary64 0x3fea_04d8_6e61_efb4
unfolding horner down coefficient of_int add mul div of_bits
at_1 = refl

at_minus_half : horner (fin true 1 (negsuc 0)) ≡ of_bits binary64 0x3ff3_f0b0_1b6f_3bbe
unfolding horner down coefficient of_int add mul div of_bits
at_minus_half = refl

at_minus_infinity : horner (inf true) ≡ inf false
unfolding horner down coefficient of_int add mul div
at_minus_infinity = refl
