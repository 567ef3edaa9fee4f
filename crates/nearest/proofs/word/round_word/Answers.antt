-- `round_word` meets its contract, by `Round`. Assumes nothing.
use borrow.Author.Rules.{rules}
use native.Mathlib.Omega.{arith}
use Prim.Native.Nat.{◌-◌, ◌/◌, ◌%◌, ◌^◌, ◌≤◌}
use Rattle.nearest.proofs.Even.{low_small, near_small}
use Rattle.nearest.proofs.Round.{word_low, word_high, word_over}
use Rattle.nearest.proofs.word.round_word.Goals as goal

pub signed-requires : goal.signed-requires
signed-requires c =
    let n = low_small c.args.v (1222 - c.args.e) c.subnormal.result c.ranges.v.fits (omega arith)
    c.subnormal.ensures in
    omega arith

pub returns-then-e-lt1211 : goal.returns-then-e-lt1211
returns-then-e-lt1211 c =
    λ t X Y p j.
    let n = c.subnormal in
    word_low c.args.s X Y c.args.v c.args.e p j t c.ranges.v.fits n.result c.signed.result (omega arith)
    n.ensures
    c.signed.ensures

pub returns-then-k-ge2046 : goal.returns-then-k-ge2046
returns-then-k-ge2046 c =
    λ t X Y p j.
    word_over c.args.s X Y c.args.v c.args.e p j t c.ranges.v.fits (omega arith) c.signed-then-k-ge2046.result (omega arith)
    c.signed-then-k-ge2046.ensures

pub returns : goal.returns
returns c =
    λ t X Y p j.
    let n = c.even in
    word_high c.args.s X Y c.args.v c.args.e p j t c.ranges.v.fits (omega arith) n.result c.signed-2.result
    (omega arith) n.ensures c.signed-2.ensures
