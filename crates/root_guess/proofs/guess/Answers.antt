-- `guess` is safe: the patterns that it makes are no NaN's. Assumes nothing.
use borrow.Author.Rules.{rules}
use native.Mathlib.Omega.{arith}
use Prim.Native.Nat.{◌+◌, ◌*◌, ◌/◌, ◌%◌, ◌^◌}
use Rattle.binary64.specs.Tests.{bits_number}
use Rattle.root_guess.proofs.guess.Goals as goal

pub float_from_bits-scale : goal.float_from_bits-scale
float_from_bits-scale c =
    bits_number ((c.args.b / 2 ^ 53 + 512) * 2 ^ 52) (omega arith)

pub float_from_bits-m : goal.float_from_bits-m
float_from_bits-m c =
    bits_number (c.args.b % 2 ^ 53 + 1022 * 2 ^ 52) (omega arith)
