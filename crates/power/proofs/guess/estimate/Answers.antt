-- `power::guess::estimate` is safe: the patterns that it makes are no NaN's. Assumes nothing.
use Rattle.std.proofs.Common.{◌-◌, ◌/◌, ◌%◌, ◌^◌, arith}
use Rattle.binary64.specs.Tests.{bits_number}
use Rattle.power.proofs.guess.estimate.Goals as goal

pub float_from_bits-a : goal.float_from_bits-a
float_from_bits-a c =
    bits_number c.args.b (omega arith)

pub float_from_bits-first : goal.float_from_bits-first
float_from_bits-first c =
    bits_number (0x5fe6_eb50_c7b5_37a9 - c.args.b / 2) (omega arith)

pub float_from_bits-high : goal.float_from_bits-high
float_from_bits-high c =
    bits_number (c.args.b - c.args.b % 2 ^ 34) (omega arith)
