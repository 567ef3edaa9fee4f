-- `put_number` meets its contract. The invariant: what is left of the groups, written where the loop stands, gives what all of
-- them give. Assumes nothing.
use Prim.Native.Nat.{◌-◌, ◌<◌}
use mathlib.Core.Path.{refl, ap}
use native.Mathlib.Numerals.{add-one}
use native.Mathlib.Omega.{arith}
use lib.ListN.{length, length-set}
use Rattle.packed_number.specs.Numbers.{number_bytes}
use Rattle.packed.specs.LengthLaws.{groups_some}
use Rattle.packed_number.proofs.Groups.{groups_last, groups_more, groups_tenth, rest_less}
use Rattle.packed.proofs.numbers.put_number.Goals as goal
use Rattle.packed.proofs.numbers.put_number.Goals.{In-loop-left}

-- there is room for the group at hand
room : (c : In-loop-left) → c.loop-left.at < length c.loop-left.out
room c = let l = c.loop-left in omega (arith, groups_some l.left l.rest, l.invariant.0, l.invariant.2, c.requires)

pub loop-left-init : goal.loop-left-init
unfolding number_bytes
loop-left-init c =
    (refl, omega arith, refl, refl)

pub bounds-out-at : goal.bounds-out-at
bounds-out-at c =
    room (goal.at.bounds-out-at c).In-loop-left

pub returns-then-rest-lt128 : goal.returns-then-rest-lt128
returns-then-rest-lt128 c =
    let l = c.loop-left in
    let e = groups_last l.left l.rest c.if-rest-lt128.true in
    record { bytes = rw e at l.invariant.3; place = omega (arith, l.invariant.2, ap length e) }

pub bounds-out-at-in-loop-left : goal.bounds-out-at-in-loop-left
bounds-out-at-in-loop-left c =
    room (goal.at.bounds-out-at-in-loop-left c).In-loop-left

pub loop-left-preserved : goal.loop-left-preserved
loop-left-preserved c =
    let l = c.loop-left in
    let e = groups_more l.left (l.left - 1) l.rest (omega arith) c.if-rest-lt128.false in (
      simp length-set l.invariant.0,
      rest_less l.left (l.left - 1) l.rest (omega arith) l.invariant.1,
      omega (arith, l.invariant.2, ap length e),
      rw add-one (rw e at l.invariant.3),
    )

pub bounds-out-at-2 : goal.bounds-out-at-2
bounds-out-at-2 c =
    let l = c.loop-left in omega (
      arith,
      groups_some l.left l.rest,
      l.invariant.0,
      l.invariant.2,
      c.requires,
    )

pub returns : goal.returns
returns c =
    let l = c.loop-left in
    let e = groups_tenth l.left l.rest (omega arith) in
    record { bytes = rw e at l.invariant.3; place = omega (arith, l.invariant.2, ap length e) }
