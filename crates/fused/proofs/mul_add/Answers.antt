-- `mul_add` meets its contract: `numbers` has three normal numbers, `special` the rest. Assumes nothing.
use Rattle.std.proofs.Common.{not, T, sym, ◌∙◌, rules}
use borrow.Author.Tests.{not-false}
use lib.Ieee.{is_nan}
use Rattle.binary64.specs.Tests.{not_nan}
use Rattle.fused.proofs.Zeros.{none_nan}
use Rattle.fused.proofs.Pattern.{in_range}
use Rattle.fused.proofs.mul_add.Goals as goal
use Rattle.fused.proofs.mul_add.Goals.{Else-any}

-- none of the three is a NaN
no_nan : (c : Else-any)
    → T (not (is_nan c.args.a)) × T (not (is_nan c.args.b)) × T (not (is_nan c.args.c))
no_nan c =
    let a = c.args in
    let n = none_nan a.a a.b a.c c.if-any.false in
    (not_nan a.a n.0, not_nan a.b n.1, not_nan a.c n.2)

pub float_to_bits-ab : goal.float_to_bits-ab
float_to_bits-ab c =
    (no_nan (goal.at.float_to_bits-ab c).Else-any).0

pub float_to_bits-bb : goal.float_to_bits-bb
float_to_bits-bb c =
    (no_nan (goal.at.float_to_bits-bb c).Else-any).1

pub float_to_bits-cb : goal.float_to_bits-cb
float_to_bits-cb c =
    (no_nan (goal.at.float_to_bits-cb c).Else-any).2

pub numbers-requires : goal.numbers-requires
numbers-requires c =
    let n = no_nan (goal.at.numbers-requires c).Else-any in (
      record { some = n.0; parts = c.normal.ensures },
      record { some = n.1; parts = c.normal-2.ensures },
      record { some = n.2; parts = c.normal-3.ensures },
    )
