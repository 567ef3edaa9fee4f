-- `step` meets its contract: a newline ends the line and is answered, any other byte is held. Assumes nothing.
use Prim.Native.Nat.{ℕ, ◌≤◌}
use mathlib.Core.Path.{◌≡◌, refl, sym, ◌∙◌}
use mathlib.Core.Bool.{Bool}
use mathlib.Core.List.{List, [], ◌∷◌, ◌++◌}
use native.Mathlib.Omega.{arith}
use borrow.Author.Tests.{eq-eqb, ne_eqb}
use lib.ListN.{length, take, set}
use lib.Seq.{length-take-le}
use Rattle.listing_stream.specs.Replies.{reply_of}
use Rattle.writing.specs.FedLaws.{fed_quiet}
use Rattle.writing.specs.Parts.{held_more}
use Rattle.writing.specs.Written.{Put, pushed, pushed_most}
use Rattle.listing_stream.specs.Stream.{listing_byte, held_length, Lists}
use Rattle.listing_stream.proofs.stream.step.Goals as goal

-- the line has ended
ended : (profile : Bool) (held before out : List ℕ) (b at next : ℕ) → b ≡ 10 → Put before at (reply_of profile held) out next
    → Lists (listing_byte profile held b) [] before at out (record { held = 0; used = next })
unfolding listing_byte
ended profile held before out b at next e p = rw (eq-eqb b 10 e) (record { left = refl; said = p; counted = refl })

-- one byte more is held
goes_on :
    (profile : Bool) (held after before : List ℕ) (b at n r : ℕ) → length held ≡ held_length → n ≤ held_length → (b ≡ 10 → ⊥)
    → after ≡ set held n b → r ≡ pushed n (length held)
    → Lists (listing_byte profile (take n held) b) after before at before (record { held = r; used = at })
unfolding listing_byte
goes_on profile held after before b at n r l h ne e f =
    let is : take r after ≡ take held_length (take n held ++ b ∷ []) = rw e (held_more held n b r (omega arith) f ∙ rw l) in
    rw (ne_eqb b 10 ne, is) (fed_quiet _ before at)

pub slice_bounds-put_reply-end-then-b-eq10 : goal.slice_bounds-put_reply-end-then-b-eq10
slice_bounds-put_reply-end-then-b-eq10 c =
    sym (length-take-le _ _ (omega arith))

pub returns-then-b-eq10 : goal.returns-then-b-eq10
returns-then-b-eq10 c =
    record { lists = ended _ _ _ _ _ _ _ c.if-b-eq10.true c.put_reply.ensures; held_le_held_length = omega arith }

pub returns : goal.returns
returns c =
    record {
      lists = goes_on c.args.profile c.args.held.now _ _ _ _ c.args.n _ c.requires.held_len c.requires.n_le_held_length
          c.if-b-eq10.false
          c.push.ensures.0
          c.push.ensures.1;
      held_le_held_length = pushed_most c.args.n held_length _ c.requires.n_le_held_length (rw c.requires.held_len at c.push.ensures.1);
    }
