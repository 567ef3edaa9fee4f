-- A period can be told in nanoseconds: it is below 2 ^ 20 seconds. Assumes nothing.
use Rattle.std.specs.Prelude.{ℕ, ◌*◌, ◌%◌, ◌^◌, ◌≤◌, ◌<◌, ◌≡◌, true, Float}
use Rattle.std.proofs.Common.{ap, ◌∙◌, arith, lt-ltb}
use Rattle.std.specs.Float.{binary64}
use Rattle.std.specs.Float.Ieee.{to_bits}
use Rattle.rounding.specs.Cut.{infinity}
use Rattle.binary64.proofs.Meaning.{bits_back}
use Rattle.between.specs.Between.{Between}
use Rattle.swing.specs.Ratios.{power}
use Rattle.parted.specs.Parts.{measured}

pub period_measured : (x : Float) → Between (power 1012) (power 1042) x → measured x 1000000000 ≡ true
unfolding measured
period_measured x X =
    let e : to_bits binary64 x ≡ X.n = ap (λ (y : Float). to_bits binary64 y) X.is
    ∙ bits_back X.n (word X.n X.high) (number X.n X.high) in
    rw (e, lt-ltb (X.n % 2 ^ 63) (1043 * 2 ^ 52) (small X.n X.high))
  where
    word : (n : ℕ) → n ≤ 1042 * 2 ^ 52 → n < 2 ^ 64
    word n h = omega arith

    number : (n : ℕ) → n ≤ 1042 * 2 ^ 52 → n % 2 ^ 63 ≤ infinity
    number n h = omega arith

    small : (n : ℕ) → n ≤ 1042 * 2 ^ 52 → n % 2 ^ 63 < 1043 * 2 ^ 52
    small n h = omega arith
