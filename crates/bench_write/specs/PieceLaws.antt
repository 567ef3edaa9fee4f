-- The pieces make up the texts, and have room in what is asked for. Assumes nothing.
use Rattle.std.specs.Prelude.{◌≡◌, ℕ, ◌+◌, ◌%◌, ◌^◌, ◌≤◌, Bool, true, false, cond, List, [], ◌∷◌, ◌++◌, length, nat_le, to_bits, Float}
use Rattle.std.proofs.Math.Path.{refl}
use Rattle.std.proofs.Common.{subst, append_assoc, length-append, length-take}
use Rattle.std.proofs.Math.Nat.{min-le_left}
use native.Mathlib.Omega.{arith}
use Rattle.std.specs.Float.{binary64}
use Rattle.phrases.specs.Pieces.{letters, piece_text, room_of, up_to, room_to}
use Rattle.phrases.specs.PieceLaws.{upto_length}
use Rattle.phrases.specs.declared.Piece.TheVariants.{Letters}
use Rattle.refusals.specs.Numbers.{refusal_number}
use Rattle.refusals.specs.declared.Refusal.{Refusal}
use Rattle.drag.specs.declared.nanoseconds.Verdict.{Verdict}
use Rattle.bench_write.specs.Texts.{fixed_text, count_text, word_text, sign_of, excess_text, weighed_text, no_verdict_text}
use Rattle.bench_write.specs.Texts.{knees_of, minus_text, size_text, decrement_text}
use Rattle.bench_write.specs.Texts.{judged_counts, other_counts, tallies_text, said_text, shown_of, text_under, longest_of}
use Rattle.bench_write.specs.Pieces.{passes_piece, weighed_piece, no_verdict_piece, minus_piece, sized_piece, decrement_piece}
use Rattle.bench_write.specs.Pieces.{bad_piece}
use Rattle.bench_write.specs.Pieces.{label_piece, count_at, count_piece, tallies_piece, piece_of, pieces_of}
use Rattle.bench_write.specs.declared.tallies.Tally.{Tally}
use Rattle.bench_write.specs.declared.said.Said.{Said}
use Rattle.bench_write.specs.declared.said.Said.TheVariants.{Weighed, NoVerdict, Decrement, NoDecrement, Bad, Tallies}

-- ---- the texts
passes_is : (t : Bool) → piece_text (passes_piece t) ≡ word_text t
unfolding piece_text passes_piece word_text letters
passes_is true = refl
passes_is false = refl

sign_is : (q : Bool) → sign_of q % 256 ≡ sign_of q
unfolding sign_of
sign_is true = refl
sign_is false = refl

minus_is : (bits : ℕ) → piece_text (minus_piece bits) ≡ minus_text bits
unfolding minus_piece minus_text
minus_is bits = go (nat_le (2 ^ 63) bits)
  where
    go : (t : Bool) → piece_text (cond t (Letters 0x2d 1) (Letters 0x2d 0)) ≡ cond t (45 ∷ []) []
    go true = unfold piece_text letters in refl
    go false = unfold piece_text letters in refl

weighed_is : (v : Verdict) → up_to (weighed_piece v) 8 ≡ weighed_text v
unfolding up_to weighed_piece piece_text letters weighed_text excess_text fixed_text
weighed_is v = rw (passes_is v.passes, sign_is v.quicker) (simp append_assoc refl)

no_verdict_is : (n : ℕ) → up_to (no_verdict_piece n) 4 ≡ no_verdict_text n
unfolding up_to no_verdict_piece piece_text letters no_verdict_text count_text
no_verdict_is n = simp append_assoc refl

decrement_is : (x : Float) → up_to (decrement_piece x) 7 ≡ decrement_text x
unfolding up_to decrement_piece sized_piece piece_text letters decrement_text size_text fixed_text
decrement_is x = rw (minus_is (to_bits binary64 x)) (simp append_assoc refl)

count_is : (r : Refusal) → up_to (count_piece 3 (refusal_number r)) 3 ≡ said_text (NoDecrement r)
unfolding up_to count_piece label_piece piece_text letters said_text count_text
count_is r = simp append_assoc refl

bad_is : up_to bad_piece 2 ≡ said_text Bad
unfolding up_to bad_piece piece_text letters said_text
bad_is = refl

-- a line of the tallies after the others
knees_line : (t : Tally) (l : List ℕ)
    → ((l ++ piece_text (tallies_piece t 0)) ++ piece_text (tallies_piece t 1)) ++ piece_text (tallies_piece t 2)
    ≡ l ++ count_text (107 ∷ 110 ∷ 101 ∷ 101 ∷ 115 ∷ 32 ∷ []) (knees_of t)
unfolding tallies_piece count_piece label_piece count_at piece_text letters count_text
knees_line t l = simp append_assoc refl

passed_line : (t : Tally) (l : List ℕ)
    → ((l ++ piece_text (tallies_piece t 3)) ++ piece_text (tallies_piece t 4)) ++ piece_text (tallies_piece t 5)
    ≡ l ++ count_text (112 ∷ 97 ∷ 115 ∷ 115 ∷ 101 ∷ 100 ∷ 32 ∷ []) t.passed
unfolding tallies_piece count_piece label_piece count_at piece_text letters count_text
passed_line t l = simp append_assoc refl

drags_line : (t : Tally) (l : List ℕ)
    → ((l ++ piece_text (tallies_piece t 6)) ++ piece_text (tallies_piece t 7)) ++ piece_text (tallies_piece t 8)
    ≡ l ++ count_text (100 ∷ 114 ∷ 97 ∷ 103 ∷ 115 ∷ 32 ∷ []) t.dragging
unfolding tallies_piece count_piece label_piece count_at piece_text letters count_text
drags_line t l = simp append_assoc refl

refused_line : (t : Tally) (l : List ℕ)
    → ((l ++ piece_text (tallies_piece t 9)) ++ piece_text (tallies_piece t 10)) ++ piece_text (tallies_piece t 11)
    ≡ l ++ count_text (114 ∷ 101 ∷ 102 ∷ 117 ∷ 115 ∷ 101 ∷ 100 ∷ 32 ∷ []) t.refused
unfolding tallies_piece count_piece label_piece count_at piece_text letters count_text
refused_line t l = simp append_assoc refl

bad_line : (t : Tally) (l : List ℕ)
    → ((l ++ piece_text (tallies_piece t 12)) ++ piece_text (tallies_piece t 13)) ++ piece_text (tallies_piece t 14)
    ≡ l ++ count_text (98 ∷ 97 ∷ 100 ∷ 32 ∷ []) t.bad
unfolding tallies_piece count_piece label_piece count_at piece_text letters count_text
bad_line t l = simp append_assoc refl

tallies_is : (t : Tally) → up_to (tallies_piece t) 15 ≡ tallies_text t
unfolding up_to tallies_text judged_counts other_counts
tallies_is t = rw (knees_line t [], passed_line t, drags_line t, refused_line t, bad_line t) (simp append_assoc refl)

-- THE LAW: all its pieces are the text
pub pieces_are : (s : Said) → up_to (piece_of s) (pieces_of s) ≡ said_text s
unfolding piece_of pieces_of
pieces_are (Weighed v) = unfold said_text in weighed_is v
pieces_are (NoVerdict r) = unfold said_text in no_verdict_is (refusal_number r)
pieces_are (Decrement x) = unfold said_text in decrement_is x
pieces_are (NoDecrement r) = count_is r
pieces_are Bad = bad_is
pieces_are (Tallies t) = unfold said_text in tallies_is t

-- ---- the room
passes_room : (t : Bool) → room_of (passes_piece t) ≤ 7
unfolding room_of passes_piece
passes_room true = omega arith
passes_room false = omega arith

minus_room : (bits : ℕ) → room_of (minus_piece bits) ≤ 1
unfolding minus_piece
minus_room bits = go (nat_le (2 ^ 63) bits)
  where
    go : (t : Bool) → room_of (cond t (Letters 0x2d 1) (Letters 0x2d 0)) ≤ 1
    go true = unfold room_of in omega arith
    go false = unfold room_of in omega arith

-- THE LAW: a name's bytes and the pieces have room
pub pieces_fit : (s : Said) → shown_of s + room_to (piece_of s) (pieces_of s) ≤ longest_of s
unfolding piece_of pieces_of shown_of longest_of room_to room_of weighed_piece no_verdict_piece decrement_piece sized_piece bad_piece
    tallies_piece count_piece label_piece
pieces_fit (Weighed v) = omega (arith, passes_room v.passes)
pieces_fit (NoVerdict r) = omega arith
pieces_fit (Decrement x) = omega (arith, minus_room (to_bits binary64 x))
pieces_fit (NoDecrement r) = omega arith
pieces_fit Bad = omega arith
pieces_fit (Tallies t) = omega arith

text_length : (s : Said) → length (said_text s) ≤ room_to (piece_of s) (pieces_of s)
text_length s =
    subst (λ (l : List ℕ). length l ≤ room_to (piece_of s) (pieces_of s)) (pieces_are s) (upto_length (piece_of s) (pieces_of s))

-- THE LAW: nothing that is said is longer
pub under_length : (s : Said) (name : List ℕ) → length (text_under s name) ≤ longest_of s
unfolding text_under
under_length s name =
    rw (length-append, length-take) (omega (arith, min-le_left (shown_of s) (length name), text_length s, pieces_fit s))
