-- `last` meets its contract: an empty rest is no line. Assumes nothing.
use Prim.Native.Nat.{ℕ, zero, suc, ◌≤◌}
use mathlib.Core.Path.{◌≡◌, refl, sym}
use mathlib.Core.Bool.{Bool}
use mathlib.Core.List.{List, [], ◌∷◌, append-nil}
use native.Mathlib.Omega.{arith}
use lib.ListN.{length, take}
use lib.Seq.{length-take-le}
use Rattle.listing_stream.specs.Replies.{reply_of}
use Rattle.writing.specs.Input.{last_line}
use Rattle.listing_stream.specs.Stream.{replies_to, said_last}
use Rattle.writing.specs.Written.{Put}
use Rattle.listing_stream.proofs.Lengths.{reply_length}
use Rattle.listing_stream.proofs.stream.last.Goals as goal

none : (profile : Bool) (o l : List ℕ) (n : ℕ) → n ≡ 0 → Put o 0 (said_last profile (take n l)) o 0
unfolding said_last last_line replies_to
none profile o l n e = rw e (record { bytes = refl; place = refl })

some : (profile : Bool) (l : List ℕ) (n : ℕ) → (n ≡ 0 → ⊥) → n ≤ length l
    → said_last profile (take n l) ≡ reply_of profile (take n l)
unfolding said_last last_line replies_to
some profile l zero ne h = absurd (ne refl)
some profile [] (suc n) ne h = absurd (omega arith)
some profile (b ∷ l) (suc n) ne h = append-nil _

pub returns-then-n-eq0 : goal.returns-then-n-eq0
returns-then-n-eq0 c =
    record { put = none _ _ _ _ c.if-n-eq0.true; upper_bound = omega arith }

pub slice_bounds-put_reply-end : goal.slice_bounds-put_reply-end
slice_bounds-put_reply-end c =
    sym (length-take-le _ _ (omega arith))

pub returns : goal.returns
returns c =
    let p = c.put_reply.ensures in record { put = rw (some c.args.profile c.args.held.now c.args.n c.if-n-eq0.false c.requires.n_in_bounds) p; upper_bound = omega (arith, p.place, reply_length c.args.profile (take c.args.n c.args.held.now)) }
