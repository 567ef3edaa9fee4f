-- What stays so in the loop.
use Rattle.std.proofs.Common.{◌≡◌, drop}
use Rattle.decimal_read.specs.Scanned.{scanned_from, scanned_of}
use Rattle.decimal_read.proofs.text.scan.Given as goal

abbrev pub invariant-loop-i : goal.invariant-loop-i
invariant-loop-i l = scanned_from l.s l.i (drop l.i l.text) ≡ scanned_of l.text
