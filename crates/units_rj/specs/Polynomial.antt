-- The polynomial of RC(1, 1 + y) for sizes of y up to 1/64, in two runs: between a half and two. Assumes nothing.
use Rattle.std.specs.Prelude.{ℕ, ◌^◌, true, false, Float}
use Rattle.std.specs.Float.{binary64}
use Rattle.std.specs.Float.Ieee.{of_int, div}
use Rattle.polynomial.specs.Polynomial.{coefficient, down, horner}
use Rattle.scaling.specs.Kind.{Kind, last, mul_k, mul_ok, sum_k, sum_ok, nudge_k, nudge_ok, within}
use Rattle.scaling.specs.Two.{Two}
use Rattle.scaling.proofs.Two.{mul_two, sum_two}
use Rattle.scaling.specs.One.{lit_ok}
use Rattle.scaling.proofs.One.{lit_two, widen_two}
use Rattle.scaling.proofs.Swap.{nudge_last_two}

-- up to 1/64 in size
abbrev pub tiny_k : Kind
tiny_k = record { any = true; zer = true; lo = 0; hi = 2 ^ 1068; g = 0; u = 0; d = 0 }

-- a partial sum
abbrev part_k : Kind
part_k = record { any = true; zer = true; lo = 0; hi = 2 ^ 1074; g = 0; u = 0; d = 0 }

abbrev pub factor_k : Kind
factor_k = record { any = false; zer = false; lo = 2 ^ 1073; hi = 2 ^ 1075; g = last binary64 (2 ^ 1073); u = 0; d = 0 }

pub horner_two : {k : ℕ} {y y' : Float} → Two binary64 k tiny_k y y' → Two binary64 k factor_k (horner y) (horner y')
unfolding horner down coefficient of_int div lit_ok mul_k mul_ok sum_k sum_ok nudge_k nudge_ok within
horner_two y =
    let s7 = widen_two {B = part_k} (sum_two (mul_two (lit_two (coefficient 8) tt) y tt) (lit_two (coefficient 7) tt) tt) tt in
    let s6 = widen_two {B = part_k} (sum_two (mul_two s7 y tt) (lit_two (coefficient 6) tt) tt) tt in
    let s5 = widen_two {B = part_k} (sum_two (mul_two s6 y tt) (lit_two (coefficient 5) tt) tt) tt in
    let s4 = widen_two {B = part_k} (sum_two (mul_two s5 y tt) (lit_two (coefficient 4) tt) tt) tt in
    let s3 = widen_two {B = part_k} (sum_two (mul_two s4 y tt) (lit_two (coefficient 3) tt) tt) tt in
    let s2 = widen_two {B = part_k} (sum_two (mul_two s3 y tt) (lit_two (coefficient 2) tt) tt) tt in
    let s1 = widen_two {B = part_k} (sum_two (mul_two s2 y tt) (lit_two (coefficient 1) tt) tt) tt in
    widen_two (nudge_last_two (mul_two s1 y tt) (lit_two (coefficient 0) tt) tt) tt
