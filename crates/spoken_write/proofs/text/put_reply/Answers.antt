-- `put_reply` meets its contract: where there is room and something is said, the call, if it is shown, then the line. Assumes
-- nothing.
use Prim.Native.Nat.{ℕ, ◌+◌, ◌≤◌}
use mathlib.Core.Path.{◌≡◌, sym, ◌∙◌}
use mathlib.Core.Bool.{true, false, cond}
use mathlib.Core.List.{List, []}
use native.Mathlib.Omega.{arith}
use lib.ListN.{length}
use Rattle.writing.specs.Written.{Put, there, tried_there, tried_lacking, put_more, put_length, put_none}
use Rattle.spoken_parts.specs.Texts.{given_text, line_text, speaks, reply_text, longest_line, longest_reply}
use Rattle.spoken_write.specs.Shown.{call_length}
use Rattle.spoken_parts.specs.declared.said.Form.{Form}
use Rattle.spoken_parts.specs.declared.said.Said.{Said}
use Rattle.spoken_write.proofs.text.put_reply.Goals as goal
use Rattle.spoken_write.proofs.text.put_reply.Goals.{Then-has_room}

module _ (s : Said) (form : Form) (line : List ℕ) where
  silent : (o : List ℕ) (at : ℕ) → speaks s ≡ false → Put o at (reply_text s form line) o at
  unfolding reply_text
  silent o at e = rw e (put_none o at)

  module _ {o half : List ℕ} {at after : ℕ} (room : at + longest_reply ≤ length o)
      (p : Put o at (cond form.table (given_text line) []) half after) where
    left : after + longest_line ≤ length half
    left = omega (arith, p.place, put_length p, call_length form.table line)

    all : {out : List ℕ} {end : ℕ} → speaks s ≡ true → Put half after (line_text s form) out end
        → Put o at (reply_text s form line) out end
    unfolding reply_text
    all e q = rw e (put_more p q)

room : (c : Then-has_room) → let a = c.args in a.at + longest_reply ≤ length a.out.now
room c = there c.has_room.ensures c.if-has_room.true

pub put_call-after-requires : goal.put_call-after-requires
put_call-after-requires c =
    omega (arith, room (goal.at.put_call-after-requires c).Then-has_room)

pub put_parts-requires : goal.put_parts-requires
put_parts-requires c =
    let a = c.args in
    left a.said a.form a.line.now (room (goal.at.put_parts-requires c).Then-has_room) c.put_call-after.ensures

pub returns-then-speaks : goal.returns-then-speaks
returns-then-speaks c =
    let a = c.args in
    tried_there c.has_room.ensures c.if-has_room.true
    (all a.said a.form a.line.now (room (goal.at.returns-then-speaks c).Then-has_room) c.put_call-after.ensures (sym c.speaks.ensures ∙ c.if-speaks.true)
    c.put_parts.ensures)

pub returns-then-has_room : goal.returns-then-has_room
returns-then-has_room c =
    tried_there c.has_room.ensures c.if-has_room.true (silent _ _ _ _ _ (sym c.speaks.ensures ∙ c.if-speaks.false))

pub returns : goal.returns
returns c =
    tried_lacking c.has_room.ensures c.if-has_room.false
