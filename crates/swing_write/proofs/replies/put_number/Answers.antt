-- `put_number` meets its contract: the digits, then the byte. Assumes nothing.
use Prim.Native.Nat.{ℕ, ◌+◌, ◌≤◌}
use mathlib.Core.List.{List}
use native.Mathlib.Omega.{arith}
use borrow.Author.Rules.{rules}
use lib.ListN.{length, set}
use Rattle.digits.proofs.DigitLaws.{digits_length}
use Rattle.writing.specs.Decimal.{decimal}
use Rattle.writing.specs.Places.{places_most}
use Rattle.writing.specs.Written.{Put, Tried, tried_put, put_more, put_byte}
use Rattle.swing_write.specs.Replies.{number_text, longest_number}
use Rattle.swing_write.proofs.replies.put_number.Goals as goal
use Rattle.swing_write.proofs.replies.put_number.Goals.{After-slice_known-2-1}

module _ (n : ℕ) {o out : List ℕ} {at end : ℕ} (room : at + longest_number ≤ length o) (t : Tried 20 o at (decimal 19 n) out end)
  where
    numbered : (b : ℕ) → Put o at (number_text n b) (set out end b) (end + 1)
    unfolding number_text
    numbered b = put_more (tried_put (omega arith) t) (put_byte out end b)

    -- at most twenty digits, so there is room for the byte
    twenty : end ≤ at + 20
    unfolding decimal
    twenty = omega (arith, rw digits_length at (tried_put (omega arith) t).place, places_most 19 n)

after : (c : After-slice_known-2-1)
    → c.put_decimal-place.result ≤ c.args.at + 20
after c = twenty c.args.n c.requires c.put_decimal-place.ensures

pub bounds-out-place : goal.bounds-out-place
bounds-out-place c =
    omega (arith, after (goal.at.bounds-out-place c).After-slice_known-2-1)

pub overflow_add-result : goal.overflow_add-result
overflow_add-result c =
    omega (arith, after (goal.at.overflow_add-result c).After-slice_known-2-1)

pub returns : goal.returns
returns c =
    numbered c.args.n c.requires c.put_decimal-place.ensures _
