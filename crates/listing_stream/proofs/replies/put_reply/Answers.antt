-- `put_reply` meets its contract: it answers a call, and says of every other line that it is bad. Assumes nothing.
use Rattle.std.proofs.Common.{Option, Some, None}
use Prim.Native.Nat.{ℕ}
use mathlib.Core.Path.{◌≡◌, sym, ap, ◌∙◌}
use mathlib.Core.Bool.{Bool}
use mathlib.Core.List.{List}
use native.Mathlib.Omega.{arith}
use Rattle.carlson.specs.Answer.{Answer}
use Rattle.listing_read.specs.Lines.{call_of}
use Rattle.listing_stream.specs.Replies.{answer_by, admitted, reply_to, reply_of}
use Rattle.listing_write.specs.Text.{text_of}
use Rattle.writing.specs.Bad.{bad_text}
use Rattle.writing.specs.Written.{Put, tried_put}
use Rattle.calls.specs.declared.Call.{Call}
use Rattle.listing_stream.proofs.replies.put_reply.Goals as goal

-- the line that the code looked at is the definition's
asked : (profile : Bool) (l : List ℕ) {read seen known : Option Call} → read ≡ call_of l → seen ≡ admitted profile read → seen ≡ known
    → admitted profile (call_of l) ≡ known
asked profile l e f g = sym (f ∙ ap (admitted profile) e) ∙ g

good : (profile : Bool) (l o out : List ℕ) (at next : ℕ) (c : Call) (a : Answer) → admitted profile (call_of l) ≡ Some c
    → a ≡ answer_by profile c
    → Put o at (text_of c a) out next
    → Put o at (reply_of profile l) out next
unfolding reply_of reply_to
good profile l o out at next c a e f p = rw e (rw f at p)

bad : (profile : Bool) (l o out : List ℕ) (at next : ℕ) → admitted profile (call_of l) ≡ None → Put o at bad_text out next
    → Put o at (reply_of profile l) out next
unfolding reply_of reply_to
bad profile l o out at next e p = rw e p

pub returns-in-Some : goal.returns-in-Some
returns-in-Some c =
    good _ _ _ _ _ _ _ _ (asked _ _ c.call_of.ensures c.admitted.ensures c.in-Some.is)
    c.answer_by.ensures
    (tried_put (omega arith) c.put_answer.ensures)

pub returns-in-None : goal.returns-in-None
returns-in-None c =
    bad _ _ _ _ _ _ (asked _ _ c.call_of.ensures c.admitted.ensures c.in-None.is)
    (tried_put (omega arith) c.put_text.ensures)
