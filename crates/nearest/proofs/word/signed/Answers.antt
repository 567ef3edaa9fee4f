-- `signed` meets its contract: the sign is the highest bit. Assumes nothing.
use borrow.Author.Rules.{rules}
use native.Mathlib.Omega.{arith}
use Prim.Native.Nat.{◌+◌, ◌^◌}
use mathlib.Core.Path.{◌∙◌}
use Rattle.binary64.specs.Tests.{bits_number}
use Rattle.rounding.specs.Sign.{bits_neg}
use Rattle.nearest.specs.Signed.{sign_set, sign_clear}
use Rattle.nearest.proofs.word.signed.Goals as goal

pub float_from_bits-result : goal.float_from_bits-result
float_from_bits-result c =
    bits_number (c.args.b + 2 ^ 63) (omega arith)

pub returns-then-s : goal.returns-then-s
returns-then-s c =
    let a = c.args in bits_neg a.b (omega arith) ∙ sign_set a.s _ c.if-s.true

pub float_from_bits-result-2 : goal.float_from_bits-result-2
float_from_bits-result-2 c =
    bits_number c.args.b (omega arith)
