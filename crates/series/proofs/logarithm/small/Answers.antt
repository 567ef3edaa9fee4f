-- `series::logarithm::small` meets its contract, case by case. Assumes nothing.
use Rattle.std.proofs.Common.{◌≡◌, ℕ, ◌+◌, ◌-◌, ◌*◌, ◌%◌, ◌^◌, ◌<◌, ◌≤◌, sym, ◌∙◌, ap₂, arith, rules}
use lib.Count.{count_leading_zeros}
use lib.Ieee.{of_bits, nan_bits, size}
use Rattle.series.specs.Ln.{ln_below_half, below_exponent, full_digits}
use Rattle.series.proofs.Cases as cases
use Rattle.series.proofs.Zeros.{zeros, shift_least, shift_most, shifted_is}
use Rattle.series.proofs.logarithm.small.Goals as goal

-- ---- a subnormal number
module _ (b : ℕ) (none : b ≡ 0 → ⊥) (low : b < 2 ^ 52) where
  least : 1 ≤ b
  least = omega arith

  below : b < 2 ^ 53
  below = omega arith

  zeros_least : 11 ≤ count_leading_zeros 64 b
  zeros_least = shift_least b least below

  zeros_most : count_leading_zeros 64 b ≤ 63
  zeros_most = shift_most b least below

  exponent-is : 1010 + count_leading_zeros 64 b ≡ below_exponent b
  exponent-is = let e : 1010 + count_leading_zeros 64 b ≡ 1074 - size b = omega (arith, zeros b (omega arith)) in e
      ∙ sym (cases.subnormal b low).0

  digits_are : b * 2 ^ (count_leading_zeros 64 b - 11) % 2 ^ 64 ≡ full_digits b
  digits_are = shifted_is b least below ∙ sym (cases.subnormal b low).1

pub float_from_bits-result : goal.float_from_bits-result
unfolding nan_bits
float_from_bits-result c =
    search rules

pub returns-then-b-eq0 : goal.returns-then-b-eq0
unfolding of_bits
returns-then-b-eq0 c =
    cases.ln_zero c.args.b c.if-b-eq0.true

pub overflow_sub-z : goal.overflow_sub-z
overflow_sub-z c =
    zeros_least _ c.if-b-eq0.false c.if-b-lt-FIELD.true

pub below_half-requires : goal.below_half-requires
below_half-requires c =
    let b = c.args.b in
    let none = c.if-b-eq0.false in
    rw (exponent-is b none c.if-b-lt-FIELD.true, digits_are b none c.if-b-lt-FIELD.true)
    (cases.ln_below_range b (omega arith) (omega arith))

pub returns-then-b-lt-FIELD : goal.returns-then-b-lt-FIELD
returns-then-b-lt-FIELD c =
    let b = c.args.b in
    let none = c.if-b-eq0.false in
    c.below_half.ensures
    ∙ ap₂ ln_below_half (exponent-is b none c.if-b-lt-FIELD.true) (digits_are b none c.if-b-lt-FIELD.true)
    ∙ cases.ln_below_half b (omega arith) (omega arith)
