-- Powers that antt computes by the definition.
use Rattle.std.specs.Prelude.{◌≡◌, true, false, pos, negsuc, refl}
use Rattle.std.specs.Float.{nan, inf, fin, binary64}
use Rattle.std.specs.Float.Ieee.{of_bits}
use Rattle.rounding.specs.Cut.{value, rounded}
use Rattle.power.specs.Power.{power}

-- 4 ^ (-3/2) = 1/8, and 2 ^ (-3/2) by its pattern
power_4 : power (fin false 1 (pos 2)) ≡ fin false 1 (negsuc 2)
unfolding power rounded value of_bits
power_4 = refl

power_2 : power (fin false 1 (pos 1)) ≡ of_bits binary64 0x3fd6_a09e_667f_3bcd
unfolding power rounded value of_bits
power_2 = refl

-- the least f64 overflows, and the greatest underflows
power_least : power (fin false 1 (negsuc 1073)) ≡ inf false
unfolding power rounded value of_bits
power_least = refl

power_greatest : power (of_bits binary64 0x7fef_ffff_ffff_ffff) ≡ fin false 0 (pos 0)
unfolding power rounded value of_bits
power_greatest = refl

-- 2 ^ 716 has the power 2 ^ -1074, the least f64, and 2 ^ 700 the power 2 ^ -1050, a subnormal number
power_last : power (fin false 1 (pos 716)) ≡ fin false 1 (negsuc 1073)
unfolding power rounded value of_bits
power_last = refl

power_subnormal : power (fin false 1 (pos 700)) ≡ fin false 1 (negsuc 1049)
unfolding power rounded value of_bits
power_subnormal = refl

-- a zero of either sign gives +infinity; -1 and -infinity have no power, and +infinity has +0
power_0 : power (of_bits binary64 0) ≡ inf false
unfolding power of_bits
power_0 = refl

power_minus_0 : power (of_bits binary64 0x8000_0000_0000_0000) ≡ inf false
unfolding power of_bits
power_minus_0 = refl

power_minus_1 : power (fin true 1 (pos 0)) ≡ nan
unfolding power
power_minus_1 = refl

power_minus_infinity : power (inf true) ≡ nan
unfolding power
power_minus_infinity = refl

power_infinity : power (inf false) ≡ fin false 0 (pos 0)
unfolding power
power_infinity = refl
