-- `root::exact::near` is safe: its patterns are no NaN's, and a number above zero is none. Assumes nothing.
use Rattle.std.proofs.Common.{◌+◌, ◌*◌, ◌/◌, ◌^◌, arith}
use Rattle.binary64.specs.Tests.{bits_number}
use Rattle.root.proofs.exact.near.Goals as goal

pub float_from_bits-v : goal.float_from_bits-v
float_from_bits-v c =
    bits_number (c.args.n + 1022 * 2 ^ 52) (omega arith)

pub float_from_bits-v-else-n : goal.float_from_bits-v-else-n
float_from_bits-v-else-n c =
    bits_number (c.args.n / 2 + 1023 * 2 ^ 52) (omega arith)
