-- The pieces of what is said, one after the other. That they make up the texts is proved in `PieceLaws`. Definitions only.
use Rattle.std.specs.Prelude.{ℕ, ◌/◌, ◌%◌, ◌^◌, Bool, cond, ◌==◌, nat_le, to_bits, Float}
use Rattle.std.specs.Float.{binary64}
use Rattle.phrases.specs.declared.Piece.{Piece}
use Rattle.phrases.specs.declared.Piece.TheVariants.{Letters, Number, Places, Bits}
use Rattle.refusals.specs.Numbers.{refusal_number}
use Rattle.drag.specs.declared.nanoseconds.Verdict.{Verdict}
use Rattle.bench_write.specs.Texts.{sign_of, ticks_of, knees_of, shown_of, longest_of}
use Rattle.bench_write.specs.declared.tallies.Tally.{Tally}
use Rattle.bench_write.specs.declared.said.Shape.{Shape}
use Rattle.bench_write.specs.declared.said.Said.{Said}
use Rattle.bench_write.specs.declared.said.Said.TheVariants.{Weighed, NoVerdict, Decrement, NoDecrement, Bad, Tallies}

-- ---- a knee: the word, the excess in seconds with its sign, the period's digits; or a refusal
unfoldable pub passes_piece : Bool → Piece
passes_piece passes = cond passes (Letters 0x207061737320 6) (Letters 0x20647261677320 7)

unfoldable pub weighed_piece : Verdict → ℕ → Piece
weighed_piece v i =
    cond (i == 0) (passes_piece v.passes)
    (cond (i == 1) (Letters (sign_of v.quicker) 1)
    (cond (i == 2) (Number (v.excess / 1000000000))
    (cond (i == 3) (Letters 0x2e 1)
    (cond (i == 4) (Places v.excess 9)
    (cond (i == 5) (Letters 0x20 1)
    (cond (i == 6) (Bits (to_bits binary64 v.period))
    (Letters 0x0a 1)))))))

unfoldable pub no_verdict_piece : ℕ → ℕ → Piece
no_verdict_piece n i =
    cond (i == 0) (Letters 0x2072656675736564 8)
    (cond (i == 1) (Letters 0x20 1)
    (cond (i == 2) (Number n)
    (Letters 0x0a 1)))

-- ---- two peaks: the pattern, its sign, the size in units of 10 ^ -12
unfoldable pub minus_piece : ℕ → Piece
minus_piece bits = cond (nat_le (2 ^ 63) bits) (Letters 0x2d 1) (Letters 0x2d 0)

unfoldable pub sized_piece : ℕ → ℕ → ℕ → Piece
sized_piece bits t i =
    cond (i == 0) (Bits bits)
    (cond (i == 1) (Letters 0x20 1)
    (cond (i == 2) (minus_piece bits)
    (cond (i == 3) (Number (t / 1000000000000))
    (cond (i == 4) (Letters 0x2e 1)
    (cond (i == 5) (Places t 12)
    (Letters 0x0a 1))))))

unfoldable pub decrement_piece : Float → ℕ → Piece
decrement_piece x i = sized_piece (to_bits binary64 x) (ticks_of x) i

-- ---- a bad line
unfoldable pub bad_piece : ℕ → Piece
bad_piece i =
    cond (i == 0) (Letters 0x626164206c696e65 8)
    (Letters 0x0a 1)

-- ---- a day's tallies: a label, a number and an end each
unfoldable pub label_piece : ℕ → Piece
label_piece line =
    cond (line == 0) (Letters 0x6b6e65657320 6)
    (cond (line == 1) (Letters 0x70617373656420 7)
    (cond (line == 2) (Letters 0x647261677320 6)
    (cond (line == 3) (Letters 0x7265667573656420 8)
    (Letters 0x62616420 4))))

unfoldable pub count_at : Tally → ℕ → ℕ
count_at t line =
    cond (line == 0) (knees_of t)
    (cond (line == 1) t.passed
    (cond (line == 2) t.dragging
    (cond (line == 3) t.refused
    t.bad)))

unfoldable pub count_piece : ℕ → ℕ → ℕ → Piece
count_piece line n i =
    cond (i == 0) (label_piece line)
    (cond (i == 1) (Number n)
    (Letters 0x0a 1))

unfoldable pub tallies_piece : Tally → ℕ → Piece
tallies_piece t i = count_piece (i / 3) (count_at t (i / 3)) (i % 3)

-- ---- whatever is said
unfoldable pub piece_of : Said → ℕ → Piece
piece_of (Weighed v) i = weighed_piece v i
piece_of (NoVerdict r) i = no_verdict_piece (refusal_number r) i
piece_of (Decrement x) i = decrement_piece x i
piece_of (NoDecrement r) i = count_piece 3 (refusal_number r) i
piece_of Bad i = bad_piece i
piece_of (Tallies t) i = tallies_piece t i

-- how many there are
unfoldable pub pieces_of : Said → ℕ
pieces_of (Weighed v) = 8
pieces_of (NoVerdict r) = 4
pieces_of (Decrement x) = 7
pieces_of (NoDecrement r) = 3
pieces_of Bad = 2
pieces_of (Tallies t) = 15

unfoldable pub shape_of : Said → Shape
shape_of s = record { pieces = pieces_of s; shown = shown_of s; longest = longest_of s }
