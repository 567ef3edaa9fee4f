-- What stays so in the loop.
use Prim.Native.Nat.{◌^◌}
use mathlib.Core.Path.{◌≡◌}
use lib.ListN.{drop}
use Rattle.report_read.specs.Reading.{trailing}
use Rattle.report_read.proofs.number.last_decimal.Given as goal

abbrev pub invariant-loop-b : goal.invariant-loop-b
invariant-loop-b l =
    trailing 10 (2 ^ 64) l.v (drop l.b-index l.line) ≡ trailing 10 (2 ^ 64) 0 l.line
