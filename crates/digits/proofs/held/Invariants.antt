-- What stays so in the loop: there is room for the digits so far, and those that are left give, after their number, what all
-- give.
use Rattle.std.proofs.Common.{◌≡◌, ◌^◌, ◌<◌, drop}
use Rattle.digits.specs.Digits.{number_from}
use Rattle.digits.proofs.held.Given as goal

abbrev pub invariant-loop-b : goal.invariant-loop-b
invariant-loop-b l =
    (l.value < 16 ^ l.b-index) × (number_from l.base l.value (drop l.b-index l.text) ≡ number_from l.base 0 l.text)
