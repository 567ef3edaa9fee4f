-- `split` meets its contract, by `Scale`. Assumes nothing.
use Rattle.std.proofs.Common.{◌-◌, ◌*◌, ◌%◌, ◌^◌, arith, rules}
use lib.Count.{count_leading_zeros}
use Rattle.fused.proofs.Scale.{Low, scaled_low}
use Rattle.fused.proofs.parts.split.Goals as goal
use Rattle.fused.proofs.parts.split.Goals.{Then-b-lt-ONE}

-- below 2 ^ 52
low : (c : Then-b-lt-ONE)
    → Low c.args.b (count_leading_zeros 64 c.args.b)
    (c.args.b * 2 ^ (count_leading_zeros 64 c.args.b - 11) % 2 ^ 64)
low c = scaled_low c.args.b c.requires.0 (omega arith)

pub overflow_sub-result : goal.overflow_sub-result
overflow_sub-result c =
    omega (arith, (low (goal.at.overflow_sub-result c).Then-b-lt-ONE).more)

pub returns-then-b-lt-ONE : goal.returns-then-b-lt-ONE
returns-then-b-lt-ONE c =
    (low (goal.at.returns-then-b-lt-ONE c).Then-b-lt-ONE).scaled
