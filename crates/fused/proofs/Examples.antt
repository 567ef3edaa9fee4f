-- Sums that antt computes by the definition.
use Rattle.std.specs.Prelude.{◌≡◌, true, false, pos, negsuc, refl}
use Rattle.std.specs.Float.{nan, inf, fin, binary64}
use Rattle.std.specs.Float.Ieee.{add, mul, of_bits}
use Rattle.binary64.specs.Operators.{bits}
use Rattle.fused.specs.Fused.{fused}

-- 2 * 3 + 4 = 10
plain : fused (fin false 1 (pos 1)) (fin false 3 (pos 0)) (fin false 1 (pos 2)) ≡ fin false 5 (pos 1)
unfolding fused add
plain = refl

-- cancellation, with x = 1 + 2 ^ -52: x * x - (1 + 2 ^ -51) is 2 ^ -104, while the product rounded first is 1 + 2 ^ -51, and
-- would leave 0
cancels : fused (bits 0x3ff0_0000_0000_0001) (bits 0x3ff0_0000_0000_0001) (bits 0xbff0_0000_0000_0002) ≡ fin false 1 (negsuc 103)
unfolding fused add of_bits
cancels = refl

rounded_first : mul binary64 (bits 0x3ff0_0000_0000_0001) (bits 0x3ff0_0000_0000_0001) ≡ bits 0x3ff0_0000_0000_0002
unfolding mul of_bits
rounded_first = refl

-- a tie that the last digits of a product break: 1 + 2 ^ -53 is a tie, and a product of 2 ^ -53 * (1 + 2 ^ -52) is past it
past_tie : fused (bits 0x3ca0_0000_0000_0001) (fin false 1 (pos 0)) (fin false 1 (pos 0)) ≡ bits 0x3ff0_0000_0000_0001
unfolding fused add of_bits
past_tie = refl

at_tie : fused (fin false 1 (negsuc 52)) (fin false 1 (pos 0)) (fin false 1 (pos 0)) ≡ fin false 1 (pos 0)
unfolding fused add
at_tie = refl

-- a subnormal result: 2 ^ -1074 * 1 / 2 + 2 ^ -1074 is a tie, and goes to the even 2 * 2 ^ -1074; the product alone goes to -0
subnormal : fused (fin false 1 (negsuc 1073)) (fin false 1 (negsuc 0)) (fin false 1 (negsuc 1073)) ≡ fin false 1 (negsuc 1072)
unfolding fused add
subnormal = refl

underflow : fused (fin false 1 (negsuc 1073)) (fin true 1 (negsuc 0)) (fin false 0 (pos 0)) ≡ fin true 0 (pos 0)
unfolding fused add
underflow = refl

-- overflow; and a product above every f64 that the sum brings back: 2 ^ 1024 - 2 ^ 1023 = 2 ^ 1023
overflows : fused (fin false 1 (pos 1023)) (fin false 1 (pos 1)) (fin false 1 (pos 0)) ≡ inf false
unfolding fused add
overflows = refl

brought_back : fused (fin false 1 (pos 1023)) (fin false 1 (pos 1)) (fin true 1 (pos 1023)) ≡ fin false 1 (pos 1023)
unfolding fused add
brought_back = refl

-- zeros: -0 * 1 + -0 = -0, -0 * 1 + 0 = +0, and an exact zero of two numbers that are none, 1 * 1 - 1, is +0
minus_zero : fused (fin true 0 (pos 0)) (fin false 1 (pos 0)) (fin true 0 (pos 0)) ≡ fin true 0 (pos 0)
unfolding fused add
minus_zero = refl

zeros : fused (fin true 0 (pos 0)) (fin false 1 (pos 0)) (fin false 0 (pos 0)) ≡ fin false 0 (pos 0)
unfolding fused add
zeros = refl

exact_zero : fused (fin false 1 (pos 0)) (fin false 1 (pos 0)) (fin true 1 (pos 0)) ≡ fin false 0 (pos 0)
unfolding fused add
exact_zero = refl

-- 0 * inf + 1, inf * 1 - inf, and 2 ^ 1023 * 2 - inf, which is an infinity since the product is none
zero_inf : fused (fin false 0 (pos 0)) (inf false) (fin false 1 (pos 0)) ≡ nan
unfolding fused add
zero_inf = refl

inf_inf : fused (inf false) (fin false 1 (pos 0)) (inf true) ≡ nan
unfolding fused add
inf_inf = refl

finite_inf : fused (fin false 1 (pos 1023)) (fin false 1 (pos 1)) (inf true) ≡ inf true
unfolding fused add
finite_inf = refl
