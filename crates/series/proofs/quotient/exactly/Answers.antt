-- `series::quotient::exactly` meets its contract: two digits are the quotient. Assumes nothing.
use Rattle.std.proofs.Common.{◌^◌, ◌≤◌, arith, rules}
use Rattle.series.proofs.Digits.{digit_most, two_digits}
use Rattle.series.proofs.quotient.exactly.Goals as goal

pub returns : goal.returns
returns c =
    two_digits _ _ _ _ _ _ c.digit-first.ensures c.digit-second.ensures
