-- The period of a swing (document 02, 2026-01), each operation rounded once, in the order of the words. Definitions only.
use Rattle.std.specs.Prelude.{ℕ, ◌-◌, ◌*◌, Bool, ◌&&◌, cond, List, [], ◌∷◌, leb, pos, Float, Ok, Err}
use Rattle.std.specs.Float.{binary64}
use Rattle.std.specs.Float.Ieee.{of_int}
use Rattle.refusals.specs.declared.Refusal.{Refusal}
use Rattle.refusals.specs.Numbers.{refusal_numbers}
use Rattle.refusals.specs.declared.Refusal.TheVariants.{Height, OutOfRange}
use Rattle.binary64.specs.Operators.{◌⊗◌, ◌⊘◌}
use Rattle.root.specs.Root.{root}
use Rattle.carlson.specs.Constants.{zero, one, four}
use Rattle.carlson.specs.Answer.{handed_at}
use Rattle.carlson.specs.Answer.{Answer}
use Rattle.elliprf.specs.Rf.{rf}

-- from 1 to so many
unfoldable pub within : ℕ → ℕ → Bool
within n most = leb 1 n && leb n most

-- a whole number as an f64, and the quotient of two
abbrev pub whole : ℕ → Float
whole n = of_int binary64 (pos n)

unfoldable pub ratio : ℕ → ℕ → Float
ratio a b = whole a ⊘ whole b

-- "four times the root of L/g"
unfoldable pub four_roots : ℕ → ℕ → Float
four_roots length gravity = four ⊗ root (ratio length gravity)

-- "times" what RF answers, with RF's road and way
unfoldable pub times : Float → Answer → Answer
times factor (Ok f) = Ok (handed_at f (factor ⊗ f.value))
times factor (Err r) = Err r

-- "four times the root of L/g times RF(0, (2L-h)/(2L), 1)"
unfoldable pub swung : ℕ → ℕ → ℕ → Answer
swung length height gravity = times (four_roots length gravity) (rf zero (ratio (2 * length - height) (2 * length)) one)

abbrev pub or_refused : Bool → Refusal → Answer → Answer
or_refused fits refusal answer = cond fits answer (Err refusal)

-- "11 length or gravity out of range"
abbrev pub length_and_gravity : ℕ → ℕ → Answer → Answer
length_and_gravity length gravity answer =
    or_refused (within length 10000000) OutOfRange (or_refused (within gravity 20000000) OutOfRange answer)

-- "12 height not from 1 to 2L-1"
abbrev pub height_for : ℕ → ℕ → Answer → Answer
height_for length height answer = or_refused (within height (2 * length - 1)) Height answer

-- "in that order"
unfoldable pub period_of : ℕ → ℕ → ℕ → Answer
period_of length height gravity = length_and_gravity length gravity (height_for length height (swung length height gravity))

-- beside a finite value the only answers are these. RF's own numbers are not among them.
abbrev pub swing_numbers : List ℕ
swing_numbers = refusal_numbers (OutOfRange ∷ Height ∷ [])
