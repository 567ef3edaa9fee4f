-- `series::arc::atan` meets its contract, case by case. Assumes nothing.
use Rattle.std.proofs.Common.{◌≡◌, ◌/◌, ◌^◌, false, refl, ◌∙◌, arith, rules}
use lib.Ieee.{binary64, round, div, of_bits}
use Rattle.enclosure.specs.Pieces.{value, row, numerators}
use Rattle.enclosure.specs.Rules.{atan_answer, half_pi}
use Rattle.series.specs.Scaled.{with_sign}
use Rattle.series.proofs.Cases.{atan_tiny, atan_below_one, atan_at_one, atan_above_one, atan_far, atan_none}
use Rattle.series.proofs.Patterns.{signed_number}
use Rattle.series.proofs.arc.atan.Goals as goal

quarter-pi-is : of_bits binary64 0x3fe9_21fb_5444_2d18 ≡ round binary64 false (atan_answer 0 (2 ^ 62)) (2 ^ 62)
unfolding of_bits round atan_answer value row numerators
quarter-pi-is = refl

half-pi-is : of_bits binary64 0x3ff9_21fb_5444_2d18 ≡ round binary64 false half_pi (2 ^ 62)
unfolding of_bits round
half-pi-is = refl

pub returns-then-a-lt-TINY : goal.returns-then-a-lt-TINY
returns-then-a-lt-TINY c =
    atan_tiny c.args.x c.split-b.result c.split-b.ensures c.if-a-lt-TINY.true

pub returns-then-a-lt-ONE : goal.returns-then-a-lt-ONE
returns-then-a-lt-ONE c =
    c.below_one.ensures ∙ atan_below_one c.args.x c.split-b.result c.split-b.ensures (omega arith) (omega arith)

pub float_from_bits-result : goal.float_from_bits-result
float_from_bits-result c =
    signed_number _ (c.split-b.result / 2 ^ 63) (omega arith) (omega arith)

pub returns-then-a-eq-ONE : goal.returns-then-a-eq-ONE
returns-then-a-eq-ONE c =
    with_sign _ _ _ (c.split-b.result / 2 ^ 63) (omega arith) quarter-pi-is (omega arith)
    ∙ atan_at_one c.args.x c.split-b.result c.split-b.ensures c.if-a-eq-ONE.true

pub returns-then-a-lt-FAR : goal.returns-then-a-lt-FAR
returns-then-a-lt-FAR c =
    c.above_one.ensures
    ∙ atan_above_one c.args.x c.split-b.result c.split-b.ensures (omega arith) c.if-a-eq-ONE.false
    (omega arith)

pub float_from_bits-result-then-a-le-INFINITY : goal.float_from_bits-result-then-a-le-INFINITY
float_from_bits-result-then-a-le-INFINITY c =
    signed_number _ (c.split-b.result / 2 ^ 63) (omega arith) (omega arith)

pub returns-then-a-le-INFINITY : goal.returns-then-a-le-INFINITY
returns-then-a-le-INFINITY c =
    with_sign _ _ _ (c.split-b.result / 2 ^ 63) (omega arith) half-pi-is (omega arith)
    ∙ atan_far c.args.x c.split-b.result c.split-b.ensures (omega arith) (omega arith)

pub returns : goal.returns
unfolding of_bits div
returns c =
    atan_none c.args.x c.split-b.result c.split-b.ensures (omega arith)
