-- Clearing the highest bit of a pattern clears the sign of its f64, and nothing else. Assumes nothing.
use Prim.Native.Nat.{ℕ, zero, suc, ◌+◌, ◌/◌, ◌%◌, ◌^◌}
use mathlib.Core.Path.{◌≡◌, refl, ap, ◌∙◌}
use mathlib.Core.Bool.{Bool, true, false, cond}
use native.Mathlib.Omega.{arith}
use borrow.Author.Tests.{lt-leb}
use lib.Dec.{T, leb, eqb}
use lib.Ieee.{Float, nan, inf, binary64, odd, fits, of_fields, of_bits, to_bits}
use lib.Ieee.Bits.{of_bits-to_bits}
use Rattle.binary64.specs.Leaves.{absolute}

odd_size : (d : ℕ) (s : Bool) (q k l : ℕ) → odd d false q k l ≡ absolute (odd d s q k l)
unfolding odd absolute
odd_size d s zero k l = refl
odd_size d s (suc q) k l = refl

fields_size : (s : Bool) (y t : ℕ) → of_fields binary64 false y t ≡ absolute (of_fields binary64 s y t)
unfolding of_fields
fields_size s zero t = odd_size 53 s t 0 1074
fields_size s (suc y) t = go (eqb (suc y) 2047) (eqb t 0)
  where
    go : (a b : Bool)
        → cond a (cond b (inf false) nan) (odd 53 false (2 ^ 52 + t) y 1074)
        ≡ absolute (cond a (cond b (inf s) nan) (odd 53 s (2 ^ 52 + t) y 1074))
    go true true = unfold absolute in refl
    go true false = unfold absolute in refl
    go false b = odd_size 53 s (2 ^ 52 + t) y 1074

bits_size : (b : ℕ) → of_bits binary64 (b % 2 ^ 63) ≡ absolute (of_bits binary64 b)
unfolding of_bits
bits_size b =
    let e : b % 2 ^ 63 % 2 ^ 63 ≡ b % 2 ^ 63 = omega arith in
    let f : b % 2 ^ 63 % 2 ^ 52 ≡ b % 2 ^ 52 = omega arith in
    rw (lt-leb (2 ^ 63) (b % 2 ^ 63) (omega arith), e, f) (fields_size (leb (2 ^ 63) b) (b % 2 ^ 63 / 2 ^ 52) (b % 2 ^ 52))

pub sign_cleared : (x : Float) → T (fits binary64 x) → of_bits binary64 (to_bits binary64 x % 2 ^ 63) ≡ absolute x
sign_cleared x f = bits_size (to_bits binary64 x) ∙ ap absolute (of_bits-to_bits binary64 x f)
