-- How long the replies are. Assumes nothing.
use Rattle.std.proofs.Common.{Option, Some, None}
use Prim.Native.Nat.{ℕ, ◌≤◌}
use mathlib.Core.Bool.{Bool, true, false, cond}
use mathlib.Core.List.{List, [], ◌∷◌, ◌++◌}
use native.Mathlib.Omega.{arith}
use lib.Dec.{eqb}
use lib.ListN.{length, take}
use Rattle.calls.specs.declared.Call.{Call}
use Rattle.listing_read.specs.Lines.{call_of}
use Rattle.listing_write.specs.Text.{longest_reply}
use Rattle.listing_write.specs.Lengths.{text_length}
use Rattle.listing_stream.specs.Replies.{answer_by, admitted, reply_to, reply_of}
use Rattle.listing_stream.specs.Stream.{held_length, listing_byte}
use Rattle.writing.specs.Fed.{quiet}
use Rattle.writing.specs.FedLaws.{Short}

reply_to_length : (profile : Bool) (r : Option Call) → length (reply_to profile r) ≤ longest_reply
unfolding reply_to
reply_to_length profile (Some c) = text_length c (answer_by profile c)
reply_to_length profile None = omega arith

-- no reply is longer than the longest answer
pub reply_length : (profile : Bool) (l : List ℕ) → length (reply_of profile l) ≤ longest_reply
unfolding reply_of
reply_length profile l = reply_to_length profile (admitted profile (call_of l))

-- nor is what is said to one byte
pub byte_short : (profile : Bool) (held : List ℕ) (b : ℕ) → Short longest_reply 0 (listing_byte profile held b)
unfolding listing_byte
byte_short profile held b = go (eqb b 10)
  where
    go : (t : Bool)
        → Short longest_reply 0
        (cond t (record { said = reply_of profile held; count = 0; left = [] }) (quiet (take held_length (held ++ b ∷ []))))
    go true = (reply_length profile held, omega arith)
    go false = (omega arith, omega arith)
