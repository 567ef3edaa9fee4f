-- `series::scaled::scaled` meets its contract, by `Halves`. Assumes nothing.
use Rattle.std.proofs.Common.{arith, rules}
use Rattle.series.specs.Halves.{halves}
use Rattle.series.proofs.Patterns.{signed_number}
use Rattle.series.proofs.scaled.scaled.Goals as goal

pub float_from_bits-upper : goal.float_from_bits-upper
float_from_bits-upper c =
    signed_number _ c.args.s (omega arith) c.requires.2

pub float_from_bits-both : goal.float_from_bits-both
float_from_bits-both c =
    signed_number _ c.args.s (omega arith) c.requires.2

pub float_from_bits-lower : goal.float_from_bits-lower
float_from_bits-lower c =
    signed_number _ c.args.s (omega arith) c.requires.2

pub returns : goal.returns
returns c =
    let a = c.args in
    halves a.n a.k a.s c.requires.0 (omega arith) c.requires.1 c.requires.2
