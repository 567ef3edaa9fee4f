-- `judge` is safe: each part that it lends lies within the row. Assumes nothing.
use mathlib.Core.Path.{sym}
use native.Mathlib.Omega.{arith}
use borrow.Author.Rules.{rules}
use lib.Seq.{length-take-le}
use Rattle.replay.proofs.row.judge.Goals as goal

pub slice_bounds-call_of-length : goal.slice_bounds-call_of-length
slice_bounds-call_of-length c =
    sym (length-take-le _ _ (omega arith))
