-- `write_answer` meets its contract: the name, then what its answer says. Assumes nothing.
use Prim.Native.Nat.{ℕ, ◌+◌, ◌≤◌}
use mathlib.Core.Path.{◌≡◌, sym}
use mathlib.Core.List.{List}
use native.Mathlib.Omega.{arith}
use borrow.Author.Rules.{rules}
use lib.ListN.{length}
use Rattle.carlson.specs.Answer.{Answer}
use Rattle.calls.specs.Calls.{name_of, longest_name}
use Rattle.calls.specs.CallLaws.{name_length}
use Rattle.calls.specs.declared.Call.{Call}
use Rattle.listing_write.specs.Text.{after_name, text_of, longest_value, longest_refusal}
use Rattle.writing.specs.Written.{Put, put_more, put_length}
use Rattle.listing_write.proofs.write_answer.Goals as goal

answered :
    (c : Call) (a : Answer) {o half out text : List ℕ} {at end next : ℕ} → text ≡ after_name a → Put o at (name_of c) half end
    → Put half end text out next → Put o at (text_of c a) out next
unfolding text_of
answered c a f p q = put_more p (rw f at q)

-- the name leaves as much room as is asked
room : (c : Call) {o half : List ℕ} {at end : ℕ} (k : ℕ) → at + (longest_name + k) ≤ length o → Put o at (name_of c) half end
    → end + k ≤ length half
room c k h p = omega (arith, p.place, put_length p, name_length c)

pub put_value-requires : goal.put_value-requires
put_value-requires c =
    room _ longest_value c.requires
    c.put_name-end.ensures

pub put_refusal-requires : goal.put_refusal-requires
put_refusal-requires c =
    room _ longest_refusal (omega arith) c.put_name-end.ensures

pub returns-in-Ok : goal.returns-in-Ok
unfolding after_name
returns-in-Ok c =
    answered _ _ (rw c.in-Ok.is) c.put_name-end.ensures c.put_value.ensures

pub returns-in-Err : goal.returns-in-Err
unfolding after_name
returns-in-Err c =
    answered _ _ (rw (c.in-Err.is, sym c.number.ensures)) c.put_name-end.ensures c.put_refusal.ensures
