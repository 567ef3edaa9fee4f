-- `split` meets its contract: the library writes the quiet pattern for a NaN, and so does the code. Assumes nothing.
use mathlib.Core.Path.{refl, sym, ap}
use lib.Ieee.{Float, binary64, to_bits}
use Rattle.binary64.specs.Tests.{differs_nan, same_no_nan, not_nan}
use Rattle.binary64.proofs.bits.split.Goals as goal

pub returns-then-x : goal.returns-then-x
unfolding to_bits
returns-then-x c =
    sym (ap (λ (z : Float). to_bits binary64 z) (differs_nan _ c.if-x.true))

pub float_to_bits-result : goal.float_to_bits-result
float_to_bits-result c =
    not_nan _ (same_no_nan _ c.if-x.false)
