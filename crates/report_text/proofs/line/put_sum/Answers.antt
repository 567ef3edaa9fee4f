-- `put_sum` meets its contract. Assumes nothing.
use native.Mathlib.Omega.{arith}
use Prim.Native.Nat.{◌+◌}
use Rattle.writing.specs.Written.{there, tried_there, tried_lacking}
use Rattle.report_text.proofs.Parts.{sum_whole}
use Rattle.report_text.proofs.line.put_sum.Goals as goal

pub put_name-name-requires : goal.put_name-name-requires
put_name-name-requires c =
    let a = c.args in
    omega (arith, there {n = a.at + 24} c.has_room.ensures c.if-has_room.true)

pub returns-then-has_room : goal.returns-then-has_room
returns-then-has_room c =
    let a = c.args in
    tried_there c.has_room.ensures c.if-has_room.true
    (sum_whole a.function _ _ _ (there c.has_room.ensures c.if-has_room.true) c.put_name-name.ensures
    c.put_text-key.ensures c.rounded.ensures c.split.ensures c.put_word.ensures)

pub returns : goal.returns
returns c =
    tried_lacking c.has_room.ensures c.if-has_room.false
