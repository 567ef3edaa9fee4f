-- `join` meets its contract: past the infinity's pattern lie the NaNs. Assumes nothing.
use mathlib.Core.Path.{refl}
use native.Mathlib.Omega.{arith}
use Rattle.binary64.specs.Tests.{bits_number, bits_nan}
use Rattle.binary64.proofs.Nan.{zero_by_zero}
use Rattle.binary64.proofs.bits.join.Goals as goal

pub returns-then-b-gt-INFINITY : goal.returns-then-b-gt-INFINITY
returns-then-b-gt-INFINITY c =
    zero_by_zero (bits_nan c.args.b (omega arith))

pub float_from_bits-result : goal.float_from_bits-result
float_from_bits-result c =
    bits_number c.args.b (omega arith)
