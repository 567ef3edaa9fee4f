-- `series::quotient::digit` meets its contract, by `Digits`. Assumes nothing.
use Rattle.std.proofs.Common.{arith, rules}
use Rattle.series.proofs.Digits.{digit_fits, rest_fits, top_fits, settled}
use Rattle.series.proofs.quotient.digit.Goals as goal

pub returns : goal.returns
returns c =
    settled c.args.p c.args.d c.requires _ _ _ _ c.settle-once.ensures c.settle.ensures
