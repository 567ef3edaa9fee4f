-- `put_refused` meets its contract. Assumes nothing.
use Prim.Native.Nat.{◌+◌, ◌≤◌}
use mathlib.Core.Path.{◌≡◌}
use native.Mathlib.Omega.{arith}
use lib.ListN.{length, set}
use Rattle.writing.specs.Written.{Put}
use Rattle.report_text.specs.Text.{refused_key}
use Rattle.report_text.proofs.Parts.{refused_whole}
use Rattle.report_text.proofs.word.put_refused.Goals as goal
use Rattle.report_text.proofs.word.put_refused.Goals.{After-slice_known-3-1}

whole : (c : After-slice_known-3-1)
    → (
    (c.put_decimal-next.result + 1 ≤ length c.put_decimal-next.new.out)
    × (length (set c.put_decimal-next.new.out c.put_decimal-next.result 32) ≡ length c.args.out.now)
    × (Put c.args.out.now c.args.at (refused_key c.args.number)
    (set c.put_decimal-next.new.out c.put_decimal-next.result 32) (c.put_decimal-next.result + 1)))
whole c =
    refused_whole c.args.number c.requires c.put_text-said.ensures c.put_decimal-next.ensures

pub bounds-out-next : goal.bounds-out-next
bounds-out-next c =
    omega (arith, (whole (goal.at.bounds-out-next c).After-slice_known-3-1).0)

pub overflow_add-result : goal.overflow_add-result
overflow_add-result c =
    omega (arith, (whole (goal.at.overflow_add-result c).After-slice_known-3-1).0)

pub shape_of-out : goal.shape_of-out
shape_of-out c =
    (whole (goal.at.shape_of-out c).After-slice_known-3-1).1

pub returns : goal.returns
returns c =
    (whole (goal.at.returns c).After-slice_known-3-1).2
