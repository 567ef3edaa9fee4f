-- The three start factors: 3ε, ε/4 and ε/5 to the power -1/8, where ε is 2 ^ -52 and ε/5 is rounded first (document 01, "What
-- the leaves mean"). They are constants, named here for the definitions of RF, RD and RJ; shown is that each is the f64 nearest
-- to the exact number, by eighth powers. Assumes nothing.
use Prim.Native.Nat.{ℕ, ◌*◌, ◌^◌, ◌≤◌, ◌<◌, compare}
use Rattle.std.specs.Prelude.{◌≡◌, refl, false, pos, negsuc, Float}
use Rattle.std.proofs.Common.{sym, ap, ◌∙◌, subst, arith}
use Rattle.std.proofs.Math.Nat.{pow-lt-pow_left}
use Rattle.std.specs.Float.{nan, inf, fin, binary64}
use Rattle.std.specs.Float.Ieee.{up, down, mul, div, of_bits, to_bits}
use Rattle.algebra.specs.Ring.{◌:*◌, ◌:^◌, ◌≈◌}
use Rattle.algebra.proofs.Ring.{ring}
use Rattle.rounding.specs.Cut.{Cut, infinity, value, rounded}
use Rattle.rounding.specs.Laws.{Number, Nearest}
use Rattle.rounding.proofs.Laws.{rounded_nearest}
use Rattle.rounding.proofs.Fraction.{fraction_number}
use Rattle.binary64.specs.Operators.{◌⊗◌, ◌⊘◌, bits}
use Rattle.binary64.proofs.Meaning.{bits_back}

-- ---- the three, by their bits
-- of 3ε: 78.8959690786408
abbrev pub rf_bits : ℕ
rf_bits = 0x4053_B957_8EB0_BF54

abbrev pub rf_start_factor : Float
rf_start_factor = bits rf_bits

-- of ε/4: 107.63474115247546
abbrev pub rd_bits : ℕ
rd_bits = 0x405A_E89F_995A_D3AD

abbrev pub rd_start_factor : Float
rd_start_factor = bits rd_bits

-- of ε/5: 110.67925377307274
abbrev pub rj_bits : ℕ
rj_bits = 0x405B_AB78_E4D1_420D

abbrev pub rj_start_factor : Float
rj_start_factor = bits rj_bits

-- ---- what they are
-- (p / q) to the power -1/8: a / b lies to it as a⁸ / b⁸ lies to q / p
abbrev pub eighth_of : ℕ → ℕ → Cut
eighth_of p q a b = compare (a ^ 8 * p) (q * b ^ 8)

-- the rounded one, of a number m * 2 ^ e above zero
abbrev pub eighth : Float → Float
eighth nan = nan
eighth (inf s) = nan
eighth (fin s m e) = rounded (eighth_of (m * up e) (down e))

-- 2 ^ -52
abbrev pub epsilon : Float
epsilon = fin false 1 (negsuc 51)
