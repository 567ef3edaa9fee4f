-- `of_pattern` is safe: the patterns that it makes are no NaN's. Assumes nothing.
use borrow.Author.Rules.{rules}
use native.Mathlib.Omega.{arith}
use Prim.Native.Nat.{◌+◌, ◌-◌, ◌*◌, ◌/◌, ◌^◌}
use Rattle.binary64.specs.Tests.{bits_number}
use Rattle.root_guess.proofs.ahead.of_pattern.Goals as goal

pub float_from_bits-near : goal.float_from_bits-near
float_from_bits-near c =
    bits_number ((c.args.b / 2 ^ 53 + 512) * 2 ^ 52) (omega arith)

pub float_from_bits-result : goal.float_from_bits-result
float_from_bits-result c =
    bits_number ((3582 - c.args.b / 2 ^ 53) * 2 ^ 52) (omega arith)
