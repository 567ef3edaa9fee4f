-- How long a value's text and a call as it is shown are, and a call byte by byte. Assumes nothing.
use Rattle.std.specs.Prelude.{ℕ, zero, suc, ◌≤◌, ◌≡◌, refl, Bool, true, false, cond, List, [], ◌∷◌, ◌++◌, T, length, Float}
use Rattle.std.proofs.Common.{ap, ◌∙◌, arith, length-append, length-take}
use Rattle.std.proofs.Math.Nat.{min-le_left}
use Rattle.std.specs.Float.{nan, inf, fin, binary64}
use Rattle.std.specs.Float.Ieee.{fits, lt, of_bits}
use Rattle.rounding.specs.Cut.{infinity}
use Rattle.rounding.proofs.Value.{infinity_is}
use Rattle.binary64.specs.Tests.{number_above}
use Rattle.decimal_text.specs.Text.{size_text, text_of}
use Rattle.decimal_text.specs.Plain.{plain_shape, sign_length, plain_length}
use Rattle.spoken_parts.specs.Texts.{shown_byte, shown_bytes, given_text}

-- ---- a value's text
signless : (s : Bool) (m : ℕ) (e : _) → T (fits binary64 (fin s (suc m) e)) → T (fits binary64 (fin false (suc m) e))
unfolding fits
signless s m e f = f

below_infinity : (m : ℕ) (e : _) → lt (fin false m e) (of_bits binary64 infinity) ≡ true
below_infinity m e = ap (λ (y : Float). lt (fin false m e) y) infinity_is ∙ (unfold lt in refl)

size_length : (m : ℕ) (e : _) → T (fits binary64 (fin false (suc m) e)) → length (size_text (fin false (suc m) e)) ≤ 23
unfolding size_text plain_shape
size_length m e f = rw (number_above m e) at (plain_length (fin false (suc m) e) f (below_infinity (suc m) e))

-- THE LAW: no f64's text is longer
pub text_length : (x : Float) → T (fits binary64 x) → length (text_of x) ≤ 24
unfolding text_of
text_length nan f = omega arith
text_length (inf s) f = rw length-append (omega (arith, sign_length s))
text_length (fin s zero e) f = rw length-append (omega (arith, sign_length s))
text_length (fin s (suc m) e) f = rw length-append (omega (arith, sign_length s, size_length m e (signless s m e f)))

-- ---- a call as it was given
pub shown_more : (l : List ℕ) (b : ℕ) → shown_bytes (l ++ b ∷ []) ≡ shown_bytes l ++ shown_byte b ∷ []
unfolding shown_bytes
shown_more [] b = refl
shown_more (a ∷ l) b = ap (λ (m : List ℕ). shown_byte a ∷ m) (shown_more l b)

pub shown_length : (l : List ℕ) → length (shown_bytes l) ≡ length l
unfolding shown_bytes
shown_length [] = refl
shown_length (a ∷ l) = ap suc (shown_length l)

given_length : (line : List ℕ) → length (given_text line) ≤ 129
unfolding given_text
given_length line = rw (length-append, shown_length, length-take) (omega (arith, min-le_left 128 (length line)))

-- THE LAW: with the tab after it, it has at most 129 bytes
pub call_length : (table : Bool) (line : List ℕ) → length (cond table (given_text line) []) ≤ 129
call_length true line = given_length line
call_length false line = omega arith
