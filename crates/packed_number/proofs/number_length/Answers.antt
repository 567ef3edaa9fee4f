-- `number_length` meets its contract. The invariant: the groups passed and those of what is left are the groups of all. Assumes
-- nothing.
use Prim.Native.Nat.{◌-◌}
use mathlib.Core.Path.{ap}
use native.Mathlib.Omega.{arith}
use lib.ListN.{length}
use Rattle.packed_number.specs.Numbers.{number_bytes}
use Rattle.packed_number.proofs.Groups.{groups_last, groups_more, groups_tenth}
use Rattle.packed_number.proofs.number_length.Goals as goal

pub loop-left-init : goal.loop-left-init
unfolding number_bytes
loop-left-init c =
    (omega arith, omega arith)

pub returns-then-rest-lt128 : goal.returns-then-rest-lt128
returns-then-rest-lt128 c =
    let l = c.loop-left in
    omega (arith, l.invariant.1, ap length (groups_last l.left l.rest c.if-rest-lt128.true))

pub loop-left-preserved : goal.loop-left-preserved
loop-left-preserved c =
    let l = c.loop-left in (
      omega arith,
      omega (
        arith,
        l.invariant.1,
        ap length (groups_more l.left (l.left - 1) l.rest (omega arith)
            c.if-rest-lt128.false),
      ),
    )

pub returns : goal.returns
returns c =
    let l = c.loop-left in
    omega (arith, l.invariant.1, ap length (groups_tenth l.left l.rest (omega arith)))
