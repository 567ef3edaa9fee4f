-- `number_at` meets its contract. The invariant: what is left of the number, read where the loop stands, gives what all of it
-- gives. Assumes nothing.
use Prim.Native.Nat.{◌+◌, ◌-◌, ◌*◌, ◌≤◌, ◌<◌}
use mathlib.Core.Path.{refl, ◌∙◌}
use native.Mathlib.Omega.{arith}
use lib.ListN.{get_or}
use Rattle.packed_number.specs.Numbers.{number_at}
use Rattle.packed_number.specs.Groups.{tenth}
use Rattle.packed_number.proofs.Groups.{weight_more, next_fits, value_more, read_cut, read_last, read_more, read_tenth, read_beyond}
use Rattle.packed_number.proofs.number_at.Goals as goal
use Rattle.packed_number.proofs.number_at.Goals.{Else-b-lt128}

-- the value with this group, and the next group's weight
grown : (c : Else-b-lt128) → c.loop-left.value
    + (get_or c.args.bytes.now
    c.loop-left.at 0 - 128)
    * c.loop-left.weight
    < c.loop-left.weight * 128
grown c =
    let l = c.loop-left in
    value_more l.weight l.value _ l.invariant.1 (omega (arith, c.type_inv.bytes l.at))

heavier : (c : Else-b-lt128) → c.loop-left.weight * 128 ≤ tenth
heavier c =
    let l = c.loop-left in
    next_fits l.weight l.left (l.left - 1) (omega arith) l.invariant.2

pub returns-then-bytes-place : goal.returns-then-bytes-place
unfolding number_at
returns-then-bytes-place c =
    let a = c.args in read_cut 9 1 0 a.place a.bytes.now (omega arith)

pub loop-left-init : goal.loop-left-init
unfolding number_at
loop-left-init c =
    (c.if-bytes-place.false, omega arith, omega arith, refl)

pub returns-then-bytes-at : goal.returns-then-bytes-at
returns-then-bytes-at c =
    let l = c.loop-left in
    let a = c.args in
    read_cut l.left l.weight l.value l.at a.bytes.now c.if-bytes-at.true ∙ l.invariant.3

pub last_group-requires : goal.last_group-requires
last_group-requires c =
    let l = c.loop-left in
    let w : l.weight * 128 ≤ tenth = next_fits l.weight l.left (l.left - 1) (omega arith) l.invariant.2 in
    omega (arith, w, value_more l.weight l.value _ l.invariant.1 c.if-b-lt128.true)

pub returns-then-b-lt128 : goal.returns-then-b-lt128
returns-then-b-lt128 c =
    let l = c.loop-left in
    let a = c.args in
    c.last_group.ensures
    ∙ read_last l.left (l.left - 1) l.weight l.value l.at a.bytes.now (omega arith) (omega arith)
    c.if-b-lt128.true
    ∙ l.invariant.3

pub overflow_mul-value : goal.overflow_mul-value
overflow_mul-value c =
    omega (arith, grown (goal.at.overflow_mul-value c).Else-b-lt128, heavier (goal.at.overflow_mul-value c).Else-b-lt128)

pub overflow_add-value : goal.overflow_add-value
overflow_add-value c =
    omega (arith, grown (goal.at.overflow_add-value c).Else-b-lt128, heavier (goal.at.overflow_add-value c).Else-b-lt128)

pub overflow_mul-weight : goal.overflow_mul-weight
overflow_mul-weight c =
    omega (arith, heavier (goal.at.overflow_mul-weight c).Else-b-lt128)

pub loop-left-preserved : goal.loop-left-preserved
loop-left-preserved c =
    let l = c.loop-left in
    let a = c.args in (
      omega arith,
      grown (goal.at.loop-left-preserved c).Else-b-lt128,
      weight_more l.weight l.left (l.left - 1) (omega arith) l.invariant.2,
      read_more l.left (l.left - 1) l.weight l.value l.at a.bytes.now (omega arith) (omega arith) c.if-b-lt128.false
          ∙ l.invariant.3,
    )

pub returns-then-bytes-at-2 : goal.returns-then-bytes-at-2
returns-then-bytes-at-2 c =
    let l = c.loop-left in
    let a = c.args in
    read_cut l.left l.weight l.value l.at a.bytes.now c.if-bytes-at-2.true ∙ l.invariant.3

pub returns-then-bytes-at-eq1 : goal.returns-then-bytes-at-eq1
returns-then-bytes-at-eq1 c =
    let l = c.loop-left in
    let a = c.args in
    read_tenth l.left l.weight l.value l.at a.bytes.now (omega arith) (omega arith) c.if-bytes-at-eq1.true ∙ l.invariant.3

pub returns : goal.returns
returns c =
    let l = c.loop-left in
    let a = c.args in
    read_beyond l.left l.weight l.value l.at a.bytes.now (omega arith) (omega arith) c.if-bytes-at-eq1.false ∙ l.invariant.3
