-- `is_finite` meets its contract, by the two tests. Assumes nothing.
use native.Mathlib.Omega.{arith}
use Rattle.rounding.specs.Cut.{infinity}
use Rattle.binary64.specs.Tests.{bits_number, lower_side, upper_side}
use Rattle.binary64.proofs.size.is_finite.Goals as goal

pub float_from_bits-i : goal.float_from_bits-i
float_from_bits-i c =
    bits_number infinity (omega arith)

pub returns-then-x-i : goal.returns-then-x-i
returns-then-x-i c =
    lower_side c.args.x c.if-x-i.true

pub returns : goal.returns
returns c =
    upper_side c.args.x c.if-x-i.false
