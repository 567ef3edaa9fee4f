-- `is_infinite` meets its contract, step by step as its definition. Assumes nothing.
use borrow.Author.Rules.{rules}
use native.Mathlib.Omega.{arith}
use Rattle.rounding.specs.Cut.{infinity}
use Rattle.binary64.specs.Tests.{bits_number}
use Rattle.carlson_arguments.proofs.checks.is_infinite.Goals as goal

pub float_from_bits-result : goal.float_from_bits-result
float_from_bits-result c =
    bits_number infinity (omega arith)
