-- A line gone through from a place on, byte by byte. Assumes nothing.
use Rattle.std.specs.Prelude.{◌≡◌, ℕ, ◌+◌, ◌*◌, ◌%◌, ◌^◌, ◌<◌, ◌≤◌, true, false, List, length, drop, slice_index}
use Rattle.std.proofs.Common.{add-one, drop_of_length-le}
use native.Mathlib.Omega.{arith}
use Rattle.std.proofs.Math.Seq.{drop-cons}
use Rattle.spoken_read.specs.Words.{is_blank, blanks, letters, begins_at, ends_at}
use Rattle.spoken_read.specs.Lines.{lower_of, spelled_from}

module _ (l : List ℕ) (i : ℕ) where
  -- ---- where a word begins
  -- from a blank on as from the next byte
  pub begins_on : i < length l → is_blank (slice_index l i) ≡ true → begins_at l i ≡ begins_at l (i + 1)
  unfolding begins_at blanks
  begins_on h e = rw (add-one, drop-cons l i 0 h, e) (omega arith)

  pub begins_here : i < length l → is_blank (slice_index l i) ≡ false → begins_at l i ≡ i
  unfolding begins_at blanks
  begins_here h e = rw (drop-cons l i 0 h, e) (omega arith)

  pub begins_last : length l ≤ i → begins_at l i ≡ i
  unfolding begins_at blanks
  begins_last h = rw (drop_of_length-le l {i = i} h) (omega arith)

  pub begins_later : i ≤ begins_at l i
  unfolding begins_at
  begins_later = omega arith

  -- ---- where a word ends
  pub ends_on : i < length l → is_blank (slice_index l i) ≡ false → i + letters (drop i l) ≡ i + 1 + letters (drop (i + 1) l)
  unfolding letters
  ends_on h e = rw (add-one, drop-cons l i 0 h, e) (omega arith)

  pub ends_here : i < length l → is_blank (slice_index l i) ≡ true → i + letters (drop i l) ≡ i
  unfolding letters
  ends_here h e = rw (drop-cons l i 0 h, e) (omega arith)

  pub ends_last : length l ≤ i → i + letters (drop i l) ≡ i
  unfolding letters
  ends_last h = rw (drop_of_length-le l {i = i} h) (omega arith)

  pub ends_later : i < ends_at l i
  unfolding ends_at
  ends_later = omega arith

  -- ---- what its letters make
  pub spelled_on : (n : ℕ) → i < length l
      → spelled_from n (drop i l) ≡ spelled_from (n % 2 ^ 40 * 256 + lower_of (slice_index l i)) (drop (i + 1) l)
  unfolding spelled_from
  spelled_on n h = rw (add-one, drop-cons l i 0 h)

  pub spelled_last : (n : ℕ) → length l ≤ i → spelled_from n (drop i l) ≡ n
  unfolding spelled_from
  spelled_last n h = rw (drop_of_length-le l {i = i} h)
