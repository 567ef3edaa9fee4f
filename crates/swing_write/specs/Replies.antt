-- What is answered to a line of the swing and of the step log (document 02, 2026-01; the form is docs/DECISIONS.md's).
-- Definitions only.
use Rattle.std.specs.Prelude.{ℕ, ◌+◌, ◌*◌, ◌/◌, List, [], ◌∷◌, ◌++◌, Float, Result, Ok, Err}
use Rattle.std.specs.Float.{binary64}
use Rattle.std.specs.Float.Ieee.{to_bits}
use Rattle.std.specs.Float.Ieee.Nearest.{closest}
use Rattle.std.specs.Float.Ieee.Positive.{num, den}
use Rattle.refusals.specs.Numbers.{refusal_number}
use Rattle.digits.specs.Digits.{digits}
use Rattle.writing.specs.Decimal.{decimal}
use Rattle.carlson.specs.declared.answer.Found.{Found}
use Rattle.carlson.specs.Answer.{Answer}
use Rattle.refusals.specs.declared.Refusal.{Refusal}
use Rattle.refusals.specs.Numbers.{refusal_number}

-- "exactly rounded to 12 places": the nearest whole number of 10^-12 s, half to even
unfoldable pub ticks_of : Float → ℕ
ticks_of x = closest (num x * 1000000000000) (den x)

-- a u64 in decimal, and the byte after it
unfoldable pub number_text : ℕ → ℕ → List ℕ
number_text n end = decimal 19 n ++ end ∷ []

-- so many of them as seconds: whole ones, a point, twelve places
unfoldable pub seconds_text : ℕ → List ℕ
seconds_text t = number_text (t / 1000000000000) 46 ++ digits 10 12 t

-- the period's sixteen hex digits, a blank, the seconds
unfoldable pub period_text : Found → List ℕ
period_text f = (digits 16 16 (to_bits binary64 f.value) ++ 32 ∷ []) ++ (seconds_text (ticks_of f.value) ++ 10 ∷ [])

-- "refused ", and the number
unfoldable pub refused_text : ℕ → List ℕ
refused_text n = (114 ∷ 101 ∷ 102 ∷ 117 ∷ 115 ∷ 101 ∷ 100 ∷ 32 ∷ []) ++ number_text n 10

unfoldable pub swing_text : Answer → List ℕ
swing_text (Ok f) = period_text f
swing_text (Err r) = refused_text (refusal_number r)

unfoldable pub total_text : Result ℕ Refusal → List ℕ
total_text (Ok t) = number_text t 10
total_text (Err r) = refused_text (refusal_number r)

-- ---- how long each is at most
-- twenty digits, and the byte after them
abbrev pub longest_number : ℕ
longest_number = 21

abbrev pub longest_seconds : ℕ
longest_seconds = longest_number + 12

abbrev pub longest_period : ℕ
longest_period = 17 + longest_seconds + 1

abbrev pub longest_refused : ℕ
longest_refused = 8 + longest_number

abbrev pub longest_swing : ℕ
longest_swing = longest_period

abbrev pub longest_total : ℕ
longest_total = longest_refused
