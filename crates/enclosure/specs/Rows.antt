-- What is computed of the rows: the entries fit a word, the first is 1 at least, and what a row leaves out is at most 3 parts of
-- 2 ^ -63. So `value` fits a word, too. And a table that passes the test `right_row` holds the rows. Assumes nothing.
use Rattle.std.specs.Prelude.{ℕ, zero, suc, ◌+◌, ◌*◌, ◌^◌, ◌≤◌, ◌<◌, ◌≡◌, refl, Bool, true, ◌&&◌, List, [], ◌∷◌, T, eqb, leb, length, get_or}
use Rattle.std.proofs.Common.{sym, ap₂, inl, inr, mod-lt, le_trans, arith, leb→le, eqb→eq, pow_pos}
use Rattle.std.specs.Float.Ieee.Fits.{and_l, and_r}
use Rattle.algebra.specs.Order.{lt_or_le}
use Rattle.enclosure.specs.Pieces.{
  Series,
  euler,
  odd,
  pieces,
  row_length,
  row_denominator,
  numerators,
  shifted,
  row,
  piece,
  offset,
  value,
  same_list,
  right_row,
  right_rows,
}
use Rattle.enclosure.specs.Floors.{all_fit, left_out}

-- ---- a test of all numbers below n
abbrev pub all_below : (ℕ → Bool) → ℕ → Bool
all_below f zero = true
all_below f (suc n) = f n && all_below f n

-- ---- computed: the entries fit a word and the first is 1 at least, and what the rows leave out is at most 3 parts
abbrev pub good_row : List ℕ → Bool
good_row rs = leb (2 ^ 63) (get_or rs 0 0) && all_fit rs

abbrev pub little_left : Series → ℕ → Bool
little_left s i = leb (2 ^ 63 * left_out row_length (shifted i (numerators s))) (3 * row_denominator s)
