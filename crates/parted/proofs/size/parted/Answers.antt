-- `parted` meets its contract: its tests are those of the definition, in its order. Assumes nothing.
use Rattle.std.proofs.Common.{◌≡◌, ℕ, ◌+◌, ◌-◌, ◌*◌, ◌/◌, ◌%◌, ◌^◌, ◌<◌, ◌≤◌, T, sym, ap, ◌∙◌, subst, arith, rules, le-ltb, lt-ltb, le-leb}
use borrow.Author.Tests.{lt-leb}
use lib.Ieee.{Float, binary64, fits, to_bits}
use lib.Ieee.Positive.{num, den}
use Rattle.parted.specs.Parts.{parts_of, no_parts, tiny_of, measured, parted_of}
use Rattle.parted.specs.Sizes.{by_digits, by_size}
use Rattle.parted.specs.declared.parts.Parts.{Parts}
use Rattle.parted.proofs.size.parted.Goals as goal
use Rattle.parted.proofs.size.parted.Goals.{Start}

module _ (x : Float) (unit b : ℕ) (is : b ≡ to_bits binary64 x) where
  inside : b % 2 ^ 63 < 1043 * 2 ^ 52 → 1 ≤ unit → unit ≤ 1000000000000 → parts_of (num x * unit) (den x) ≡ parted_of x unit
  unfolding parted_of measured
  inside h l u =
      rw (← is, lt-ltb (b % 2 ^ 63) (1043 * 2 ^ 52) h, le-leb 1 unit l, le-leb unit 1000000000000 u)

  tiny-in : (r : Parts) → T (fits binary64 x) → b % 2 ^ 63 < 1043 * 2 ^ 52 → 1 ≤ unit → unit ≤ 1000000000000
      → b % 2 ^ 63 < 982 * 2 ^ 52 → r ≡ tiny_of (b % 2 ^ 63) → r ≡ parted_of x unit
  tiny-in r f h l u t e = e ∙ by_size x f (b % 2 ^ 63) (ap (λ (z : ℕ). z % 2 ^ 63) is) unit l u t ∙ inside h l u

  scaled-in : (r : Parts) → T (fits binary64 x) → b % 2 ^ 63 < 1043 * 2 ^ 52 → 1 ≤ unit → unit ≤ 1000000000000
      → 982 * 2 ^ 52 ≤ b % 2 ^ 63
      → r ≡ parts_of ((2 ^ 52 + b % 2 ^ 63 % 2 ^ 52) * unit) (2 ^ (1075 - b % 2 ^ 63 / 2 ^ 52)) → r ≡ parted_of x unit
  scaled-in r f h l u t e =
      e ∙ by_digits x f (b % 2 ^ 63) (ap (λ (z : ℕ). z % 2 ^ 63) is) unit (omega arith) h ∙ inside h l u

  too_large : 1043 * 2 ^ 52 ≤ b % 2 ^ 63 → no_parts ≡ parted_of x unit
  unfolding parted_of measured
  too_large h = rw (← is, le-ltb (b % 2 ^ 63) (1043 * 2 ^ 52) h)

  no-unit : b % 2 ^ 63 < 1043 * 2 ^ 52 → unit < 1 → no_parts ≡ parted_of x unit
  unfolding parted_of measured
  no-unit h l = rw (← is, lt-ltb (b % 2 ^ 63) (1043 * 2 ^ 52) h, lt-leb 1 unit l)

  too_many : b % 2 ^ 63 < 1043 * 2 ^ 52 → 1 ≤ unit → 1000000000000 < unit → no_parts ≡ parted_of x unit
  unfolding parted_of measured
  too_many h l u = rw (← is, lt-ltb (b % 2 ^ 63) (1043 * 2 ^ 52) h, le-leb 1 unit l, lt-leb unit 1000000000000 u)

held : (c : Start) → T (fits binary64 c.args.value)
held c = subst T (sym c.well_formed.0.1) tt

pub returns-then-size-lt-TINY : goal.returns-then-size-lt-TINY
returns-then-size-lt-TINY c =
    tiny-in _ _ _ c.split-size.ensures _ (held (goal.at.returns-then-size-lt-TINY c).Start) c.if-size-lt-LIMIT.true c.if-unit-ge1.true c.if-unit-le-UNITS.true c.if-size-lt-TINY.true
    c.tiny.ensures

pub returns-then-unit-le-UNITS : goal.returns-then-unit-le-UNITS
returns-then-unit-le-UNITS c =
    scaled-in _ _ _ c.split-size.ensures _ (held (goal.at.returns-then-unit-le-UNITS c).Start) c.if-size-lt-LIMIT.true c.if-unit-ge1.true c.if-unit-le-UNITS.true c.if-size-lt-TINY.false
    c.scaled.ensures

pub returns-then-unit-ge1 : goal.returns-then-unit-ge1
returns-then-unit-ge1 c =
    too_many _ _ _ c.split-size.ensures c.if-size-lt-LIMIT.true c.if-unit-ge1.true
    c.if-unit-le-UNITS.false

pub returns-then-size-lt-LIMIT : goal.returns-then-size-lt-LIMIT
returns-then-size-lt-LIMIT c =
    no-unit _ _ _ c.split-size.ensures c.if-size-lt-LIMIT.true c.if-unit-ge1.false

pub returns : goal.returns
returns c =
    too_large _ _ _ c.split-size.ensures c.if-size-lt-LIMIT.false
