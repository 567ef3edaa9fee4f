-- Pieces written one after the other. Assumes nothing.
use Prim.Native.Nat.{ℕ, zero, suc, ◌+◌, ◌/◌, ◌≤◌, ◌<◌}
use Rattle.std.specs.Prelude.{◌≡◌, refl, List, length}
use Rattle.std.proofs.Math.Logic.{inl, inr}
use Rattle.std.proofs.Math.Nat.{le_refl}
use Rattle.std.proofs.Math.Numerals.{add-one}
use native.Mathlib.Omega.{arith}
use Rattle.std.proofs.Math.ListN.{length-append}
use Rattle.algebra.specs.Order.{lt_or_le}
use Rattle.digits.proofs.DigitLaws.{digits_length}
use Rattle.writing.specs.Decimal.{decimal}
use Rattle.writing.specs.Places.{places_most}
use Rattle.writing.specs.Written.{Put, Tried, tried_put, put_more, put_length, put_none}
use Rattle.phrases.specs.Pieces.{letters, piece_text, room_of, up_to, room_to}
use Rattle.phrases.specs.declared.Piece.{Piece}
use Rattle.phrases.specs.declared.Piece.TheVariants.{Letters, Number, Places, Bits}

pub letters_length : (k n : ℕ) → length (letters k n) ≡ k
unfolding letters
letters_length zero n = refl
letters_length (suc k) n = rw (length-append, letters_length k (n / 256)) (add-one k)

pub piece_length : (p : Piece) → length (piece_text p) ≤ room_of p
unfolding piece_text room_of decimal
piece_length (Letters n k) = rw letters_length (le_refl k)
piece_length (Number n) = rw digits_length (places_most 19 n)
piece_length (Places n k) = rw digits_length (le_refl k)
piece_length (Bits n) = rw digits_length (le_refl 16)

module _ (piece : ℕ → Piece) where
  pub upto_length : (i : ℕ) → length (up_to piece i) ≤ room_to piece i
  unfolding up_to room_to
  upto_length zero = le_refl 0
  upto_length (suc i) = rw length-append (omega (arith, upto_length i, piece_length (piece i)))

  room_grows : (i n : ℕ) → i ≤ n → room_to piece i ≤ room_to piece n
  unfolding room_to
  room_grows i zero h = let z : i ≡ 0 = omega arith in rw z (le_refl 0)
  room_grows i (suc n) h = elim (lt_or_le n i) [
    | inl l ↦ let e : i ≡ suc n = omega arith in rw e (le_refl _)
    | inr l ↦ omega (arith, room_grows i n l)
  ]

  room_next : (i n : ℕ) → i < n → room_to piece i + room_of (piece i) ≤ room_to piece n
  unfolding room_to
  room_next i n h = room_grows (suc i) n h

  -- ---- a loop that writes them: none yet, and one more of n
  pub pieces_none : (o : List ℕ) (at : ℕ) → Put o at (up_to piece 0) o at
  unfolding up_to
  pieces_none o at = put_none o at

  module _ {n i at next : ℕ} {o out : List ℕ} (room : at + room_to piece n ≤ length o) (less : i < n)
      (p : Put o at (up_to piece i) out next) where
    pub pieces_next : {after : List ℕ} {end : ℕ} → Tried (room_of (piece i)) out next (piece_text (piece i)) after end
        → Put o at (up_to piece (i + 1)) after end
    unfolding up_to
    pieces_next t =
        rw add-one (put_more p (tried_put (omega (arith, p.place, put_length p, upto_length i, room_next i n less)) t))
