-- `put_line` meets its contract. Assumes nothing.
use Prim.Native.Nat.{◌+◌, ◌≤◌}
use native.Mathlib.Omega.{arith}
use lib.ListN.{length, length-set}
use Rattle.writing.specs.Written.{there, tried_there, tried_lacking, put_more, put_byte, put_length}
use Rattle.report_text.specs.RoomLaws.{line_most}
use Rattle.report_text.proofs.Lines.{no_report, no_line, out_line, in_line, tried_none}
use Rattle.report_text.proofs.report.put_line.Goals as goal
use Rattle.report_text.proofs.report.put_line.Goals.{After-slice_known-then-has_room-1}

-- there is room for the line's end
room : (c : After-slice_known-then-has_room-1)
    → (c.write_line-next.result + 1 ≤ length c.write_line-next.new.out)
room c =
    let a = c.args in
    omega (
      arith,
      there {n = a.at + 556} c.has_room.ensures c.if-has_room.true,
      c.write_line-next.ensures.place,
      put_length c.write_line-next.ensures,
      line_most a.words.now a.q,
    )

pub returns-then-words-ne-WORDS : goal.returns-then-words-ne-WORDS
returns-then-words-ne-WORDS c =
    let a = c.args in tried_none 556 _ _ _ (no_report a.words.now a.q (λ e. omega arith))

pub returns-then-q-ge-LINES : goal.returns-then-q-ge-LINES
returns-then-q-ge-LINES c =
    let a = c.args in
    tried_none 556 _ _ _ (no_line a.words.now a.q (omega arith) (omega arith))

pub returns-then-left_out : goal.returns-then-left_out
returns-then-left_out c =
    let a = c.args in
    tried_none 556 _ _ _ (out_line a.words.now a.q (omega arith) (omega arith) c.left_out.ensures c.if-left_out.true)

pub write_line-next-requires : goal.write_line-next-requires
write_line-next-requires c =
    record { words_len = omega arith; q_lt_line_count = omega arith; line_room_in_bounds = there c.has_room.ensures c.if-has_room.true }

pub bounds-out-next : goal.bounds-out-next
bounds-out-next c =
    omega (arith, room (goal.at.bounds-out-next c).After-slice_known-then-has_room-1)

pub overflow_add-result : goal.overflow_add-result
overflow_add-result c =
    omega (arith, room (goal.at.overflow_add-result c).After-slice_known-then-has_room-1)

pub shape_of-out-then-has_room : goal.shape_of-out-then-has_room
shape_of-out-then-has_room c =
    simp length-set (put_length c.write_line-next.ensures)

pub returns-then-has_room : goal.returns-then-has_room
returns-then-has_room c =
    let a = c.args in
    rw (in_line a.words.now a.q (omega arith) (omega arith) c.left_out.ensures c.if-left_out.false)
    (tried_there c.has_room.ensures c.if-has_room.true (put_more c.write_line-next.ensures (put_byte _ _ 10)))

pub returns : goal.returns
returns c =
    tried_lacking c.has_room.ensures c.if-has_room.false
