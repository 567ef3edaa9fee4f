-- `put_count` meets its contract: the digits, then a byte. Assumes nothing.
use Prim.Native.Nat.{ℕ, ◌+◌, ◌≤◌}
use mathlib.Core.List.{List}
use native.Mathlib.Omega.{arith}
use borrow.Author.Rules.{rules}
use lib.ListN.{length, set}
use Rattle.digits.proofs.DigitLaws.{digits_length}
use Rattle.writing.specs.Decimal.{decimal}
use Rattle.writing.specs.Places.{places_most}
use Rattle.writing.specs.Written.{Put, Tried, tried_put, put_more, put_byte}
use Rattle.listing_write.specs.Text.{count_text, longest_count}
use Rattle.listing_write.proofs.put_count.Goals as goal
use Rattle.listing_write.proofs.put_count.Goals.{After-slice_known-2-1}

module _ (n after : ℕ) {o out : List ℕ} {at end : ℕ} (room : at + longest_count ≤ length o)
    (t : Tried 10 o at (decimal 9 n) out end)
  where
    counted : Put o at (count_text n after) (set out end after) (end + 1)
    unfolding count_text
    counted = put_more (tried_put (omega arith) t) (put_byte out end after)

    -- at most ten digits, so there is room for the byte
    ten : end ≤ at + 10
    unfolding decimal
    ten = omega (arith, rw digits_length at (tried_put (omega arith) t).place, places_most 9 n)

fits : (c : After-slice_known-2-1)
    → c.put_decimal-end.result ≤ c.args.at + 10
fits c = ten c.args.n c.args.after c.requires
    c.put_decimal-end.ensures

pub bounds-out-end : goal.bounds-out-end
bounds-out-end c =
    omega (arith, fits (goal.at.bounds-out-end c).After-slice_known-2-1)

pub overflow_add-result : goal.overflow_add-result
overflow_add-result c =
    omega (arith, fits (goal.at.overflow_add-result c).After-slice_known-2-1)

pub returns : goal.returns
returns c =
    counted c.args.n c.args.after c.requires c.put_decimal-end.ensures
