-- What is answered to a line of the bench, and what is said of a day's file. Definitions only.
use Rattle.std.specs.Prelude.{ℕ, ◌+◌, ◌/◌, ◌%◌, ◌^◌, Bool, cond, List, [], ◌∷◌, ◌++◌, take, nat_le, to_bits, Float}
use Rattle.std.specs.Float.{binary64}
use Rattle.digits.specs.Digits.{digits}
use Rattle.writing.specs.Bad.{bad_text}
use Rattle.writing.specs.Decimal.{decimal}
use Rattle.parted.specs.Parts.{parted_of, rounded_of}
use Rattle.refusals.specs.Numbers.{refusal_number}
use Rattle.drag.specs.declared.nanoseconds.Verdict.{Verdict}
use Rattle.bench_write.specs.declared.tallies.Tally.{Tally}
use Rattle.bench_write.specs.declared.said.Said.{Said}
use Rattle.bench_write.specs.declared.said.Said.TheVariants.{Weighed, NoVerdict, Decrement, NoDecrement, Bad, Tallies}

-- a number with places: the whole part, a point, the last k digits of n
unfoldable pub fixed_text : ℕ → ℕ → ℕ → List ℕ
fixed_text whole n k = (decimal 19 whole ++ 46 ∷ []) ++ digits 10 k n

-- a word with its blank, a number, the line's end
unfoldable pub count_text : List ℕ → ℕ → List ℕ
count_text label n = (label ++ decimal 19 n) ++ 10 ∷ []

-- "refused "
abbrev pub refused_word : List ℕ
refused_word = 114 ∷ 101 ∷ 102 ∷ 117 ∷ 115 ∷ 101 ∷ 100 ∷ 32 ∷ []

-- ---- a knee: " pass " or " drags "
unfoldable pub word_text : Bool → List ℕ
word_text passes = cond passes (32 ∷ 112 ∷ 97 ∷ 115 ∷ 115 ∷ 32 ∷ []) (32 ∷ 100 ∷ 114 ∷ 97 ∷ 103 ∷ 115 ∷ 32 ∷ [])

-- "with its sign (always)": a difference below zero has `-`, also where it rounds to zero
unfoldable pub sign_of : Bool → ℕ
sign_of quicker = cond quicker 45 43

-- "the excess T - ideal in seconds .. and 9 places", from nanoseconds
unfoldable pub excess_text : Bool → ℕ → List ℕ
excess_text quicker excess = (sign_of quicker ∷ []) ++ fixed_text (excess / 1000000000) excess 9

-- the word, the excess, a blank, "the ideal period's sixteen digits"
unfoldable pub weighed_text : Verdict → List ℕ
weighed_text v =
    ((word_text v.passes ++ excess_text v.quicker v.excess) ++ 32 ∷ [])
    ++ (digits 16 16 (to_bits binary64 v.period) ++ 10 ∷ [])

-- "or the name and `refused N`"
unfoldable pub no_verdict_text : ℕ → List ℕ
no_verdict_text n = (32 ∷ []) ++ count_text refused_word n

-- ---- two peaks: in units of 10 ^ -12, rounded half to even
unfoldable pub ticks_of : Float → ℕ
ticks_of x = rounded_of (parted_of x 1000000000000)

-- `-` where the pattern has a sign
unfoldable pub minus_text : ℕ → List ℕ
minus_text bits = cond (nat_le (2 ^ 63) bits) (45 ∷ []) []

unfoldable pub size_text : ℕ → ℕ → List ℕ
size_text bits t = (minus_text bits ++ fixed_text (t / 1000000000000) t 12) ++ 10 ∷ []

-- "sixteen digits and 12 places", as the swing has them
unfoldable pub decrement_text : Float → List ℕ
decrement_text x = (digits 16 16 (to_bits binary64 x) ++ 32 ∷ []) ++ size_text (to_bits binary64 x) (ticks_of x)

-- ---- a day's tallies: knees, passed, dragging, refused and bad lines; the knees are those that were judged or refused
unfoldable pub knees_of : Tally → ℕ
knees_of t = ((t.passed + t.dragging) % 2 ^ 64 + t.refused) % 2 ^ 64

unfoldable pub judged_counts : Tally → List ℕ
judged_counts t =
    (count_text (107 ∷ 110 ∷ 101 ∷ 101 ∷ 115 ∷ 32 ∷ []) (knees_of t) ++ count_text (112 ∷ 97 ∷ 115 ∷ 115 ∷ 101 ∷ 100 ∷ 32 ∷ [])
    t.passed)
    ++ count_text (100 ∷ 114 ∷ 97 ∷ 103 ∷ 115 ∷ 32 ∷ []) t.dragging

unfoldable pub other_counts : Tally → List ℕ
other_counts t = count_text refused_word t.refused ++ count_text (98 ∷ 97 ∷ 100 ∷ 32 ∷ []) t.bad

unfoldable pub tallies_text : Tally → List ℕ
tallies_text t = judged_counts t ++ other_counts t

-- ---- what is said: to a knee, to two peaks, "or `bad line`"; and at the input's end
unfoldable pub said_text : Said → List ℕ
said_text (Weighed v) = weighed_text v
said_text (NoVerdict r) = no_verdict_text (refusal_number r)
said_text (Decrement x) = decrement_text x
said_text (NoDecrement r) = count_text refused_word (refusal_number r)
said_text Bad = bad_text
said_text (Tallies t) = tallies_text t

-- a knee's name stands before it, which has no more bytes than these
unfoldable pub shown_of : Said → ℕ
shown_of (Weighed v) = 32
shown_of (NoVerdict r) = 32
shown_of (Decrement x) = 0
shown_of (NoDecrement r) = 0
shown_of Bad = 0
shown_of (Tallies t) = 0

unfoldable pub text_under : Said → List ℕ → List ℕ
text_under s name = take (shown_of s) name ++ said_text s

-- ---- how long it is at most, to a line and at the input's end
abbrev pub longest_reply : ℕ
longest_reply = 88

abbrev pub longest_tallies : ℕ
longest_tallies = 145

unfoldable pub longest_of : Said → ℕ
longest_of (Weighed v) = longest_reply
longest_of (NoVerdict r) = longest_reply
longest_of (Decrement x) = longest_reply
longest_of (NoDecrement r) = longest_reply
longest_of Bad = longest_reply
longest_of (Tallies t) = longest_tallies
