-- `same_front` meets its contract. Assumes nothing.
use mathlib.Core.Path.{sym}
use lib.Seq.{length-take-le}
use native.Mathlib.Omega.{arith}
use Rattle.report_read.proofs.line.same_front.Goals as goal

pub slice_bounds-is_name-end : goal.slice_bounds-is_name-end
slice_bounds-is_name-end c =
    sym (length-take-le _ _ (omega arith))
