-- What stays so in the loop.
use mathlib.Core.Path.{◌≡◌}
use lib.ListN.{drop}
use Rattle.report_read.specs.Reading.{has_minus}
use Rattle.report_read.proofs.number.has_minus.Given as goal

abbrev pub invariant-loop-b : goal.invariant-loop-b
invariant-loop-b l =
    has_minus (drop l.b-index l.line) ≡ has_minus l.line
