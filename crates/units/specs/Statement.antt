-- Demand 3, units drop out exactly, stated of demand 2's definitions as document 01 has it ("How tight the contracts are").
-- Definitions only: what is claimed of two calls of an entry, the second with every argument multiplied by 4 ^ u / 4 ^ d. As u
-- and d are any natural numbers, their difference is a whole number k of either sign.
use Rattle.std.specs.Prelude.{ℕ, ◌*◌, ◌^◌, ◌≡◌, ◌⊎◌, T, Float, Ok, Err}
use Rattle.std.specs.Float.{binary64}
use Rattle.std.specs.Float.Ieee.{fits, eq, le}
use Rattle.std.specs.Float.Ieee.Scale.{finite}
use Rattle.std.specs.Float.Ieee.Positive.{num, den}
use Rattle.refusals.specs.declared.Refusal.{Refusal}
use Rattle.binary64.specs.Leaves.{absolute}
use Rattle.binary64.specs.Operators.{bits}
use Rattle.scaling.specs.One.{sign}
use Rattle.carlson.specs.Constants.{zero}
use Rattle.carlson.specs.declared.answer.Road.{Road}
use Rattle.carlson.specs.declared.answer.Way.{Way}
use Rattle.carlson.specs.Answer.{Answer}

-- 2 ^ -64 and 2 ^ 64, by their bits
abbrev pub least : Float
least = bits 0x3BF0_0000_0000_0000

abbrev pub most : Float
most = bits 0x43F0_0000_0000_0000

-- an argument in range: a zero of either sign, or a number of either sign whose size lies from 2 ^ -64 to 2 ^ 64
pub record InRange (x : Float) : Type 0 where
  pub fit : T (fits binary64 x)
  pub size : T (eq x zero) ⊎ (T (le least (absolute x)) × T (le (absolute x) most))

-- y is exactly x times 2 ^ u / 2 ^ d, said of the values as numbers: they have one sign, a zero's too, each is in size the
-- fraction num / den, and nothing is rounded
pub record Times (u d : ℕ) (x y : Float) : Type 0 where
  pub finite_first : T (finite x)
  pub finite_second : T (finite y)
  pub signs : sign x ≡ sign y
  pub sizes : num y * 2 ^ d * den x ≡ num x * 2 ^ u * den y

-- y is x times 4 ^ u / 4 ^ d
abbrev pub TimesFour : ℕ → ℕ → Float → Float → Type 0
TimesFour u d x y = Times (2 * u) (2 * d) x y

-- Two answers are alike: both refused with one number, or both values found on one road, with one round count and as many
-- rescalings (document 02, 2026-04), the second value being the first times 2 ^ u / 2 ^ d.
pub data Alike (u d : ℕ) : Answer → Answer → Type 0 where
  refused : {r : Refusal} → Alike u d (Err r) (Err r)
  values : {v w : Float} {r : Road} {c : Way} → Times u d v w → Alike u d (Ok (record { value = v; road = r; way = c }))
      (Ok (record { value = w; road = r; way = c }))
