-- `put_slot` meets its contract. Assumes nothing.
use native.Mathlib.Omega.{arith}
use Prim.Native.Nat.{◌+◌}
use Rattle.writing.specs.Written.{there, tried_there, tried_lacking}
use Rattle.report_text.proofs.Parts.{after_name_lem, slot_whole}
use Rattle.report_text.proofs.line.put_slot.Goals as goal

pub put_name-name-requires : goal.put_name-name-requires
put_name-name-requires c =
    let a = c.args in
    omega (arith, there {n = a.at + 35} c.has_room.ensures c.if-has_room.true)

pub put_key-key-requires : goal.put_key-key-requires
put_key-key-requires c =
    let a = c.args in
    after_name_lem 12 35 a.function (omega arith) (there c.has_room.ensures c.if-has_room.true) c.put_name-name.ensures

pub returns-then-has_room : goal.returns-then-has_room
returns-then-has_room c =
    let a = c.args in
    tried_there c.has_room.ensures c.if-has_room.true
    (slot_whole a.function a.i a.n (there c.has_room.ensures c.if-has_room.true) c.put_name-name.ensures
    c.put_key-key.ensures c.put_decimal.ensures)

pub returns : goal.returns
returns c =
    tried_lacking c.has_room.ensures c.if-has_room.false
