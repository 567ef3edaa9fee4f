-- Document 01's sixteen settled examples, in its order, the last as document 02, 2026-07, has it, as one table under one
-- statement: antt computes each from the definitions. Assumes nothing.
use Rattle.std.specs.Prelude.{◌≡◌, ℕ, List, [], ◌∷◌, Float, Ok, Err}
use Rattle.refusals.specs.declared.Refusal.{Refusal}
use Rattle.refusals.specs.declared.Refusal.TheVariants.{NanGiven, BelowZero, Zeros, ZeroGiven, RgNoResult}
use Rattle.refusals.specs.Numbers.{refusal_number}
use Rattle.binary64.specs.Operators.{bits}
use Rattle.carlson.specs.Constants.{zero, one, two, three, four, half, infinity}
use Rattle.carlson.specs.Answer.{way_of}
use Rattle.carlson.specs.declared.answer.Road.{Road}
use Rattle.carlson.specs.declared.answer.Road.TheVariants.{Closed, Infinite, Taylor}
use Rattle.carlson.specs.Answer.{Answer}
use Rattle.elliprc.specs.Rc.{rc}
use Rattle.elliprf.specs.Rf.{rf}
use Rattle.elliprd.specs.Rd.{rd}
use Rattle.elliprg.specs.Rg.{rg}
use Rattle.elliprj.specs.Rj.{rj}

-- ---- a row: an entry, its arguments, and what it answers: a value found on a road, a refusal with its number, or any answer
-- as it is, with its rounds
pub data Said : Type 0 where
  Value : Road → Float → Said
  Refused : Refusal → ℕ → Said
  Whole : Answer → Said

pub data Row : Type 0 where
  RC : Float → Float → Said → Row
  RF RD RG : Float → Float → Float → Said → Row
  RJ : Float → Float → Float → Float → Said → Row

-- a value found on a road, with no round and no rescaling
abbrev pub is : Road → Float → Answer
is r v = Ok (record { value = v; road = r; way = way_of 0 })

abbrev pub Answers : Answer → Said → Type 0
Answers a (Value r v) = a ≡ is r v
Answers a (Refused r n) = (a ≡ Err r) × (refusal_number r ≡ n)
Answers a (Whole b) = a ≡ b

abbrev pub Holds : Row → Type 0
Holds (RC x y said) = Answers (rc x y) said
Holds (RF x y z said) = Answers (rf x y z) said
Holds (RD x y z said) = Answers (rd x y z) said
Holds (RG x y z said) = Answers (rg x y z) said
Holds (RJ x y z p said) = Answers (rj x y z p) said

abbrev pub All : List Row → Type 0
All [] = Unit {0}
All (row ∷ rest) = Holds row × All rest

-- ---- the table's numbers; the others are the constants of the entries
-- all NaNs are one `Float`
abbrev pub not_a_number : Float
not_a_number = bits 0x7FF8_0000_0000_0000

abbrev pub minus_infinity : Float
minus_infinity = bits 0xFFF0_0000_0000_0000

abbrev pub minus_one : Float
minus_one = bits 0xBFF0_0000_0000_0000

abbrev pub minus_four : Float
minus_four = bits 0xC010_0000_0000_0000

abbrev pub eighth : Float
eighth = bits 0x3FC0_0000_0000_0000

-- ---- the table
abbrev pub table : List Row
table =
    RF four four four (Value Closed half)
    ∷ RF four zero four (Value Closed (bits 0x3FE9_21FB_5444_2D18))
    ∷ RF infinity zero zero (Refused Zeros 3)
    ∷ RF infinity zero one (Value Infinite zero)
    ∷ RF not_a_number minus_one one (Refused NanGiven 1)
    ∷ RC zero minus_four (Value Closed zero)
    ∷ RC not_a_number zero (Refused ZeroGiven 4)
    ∷ RC minus_one zero (Refused BelowZero 2)
    ∷ RD four four four (Value Closed eighth)
    ∷ RD not_a_number minus_one one (Refused BelowZero 2)
    ∷ RD zero zero minus_one (Refused Zeros 3)
    ∷ RG zero zero four (Value Closed one)
    ∷ RG infinity zero zero (Refused RgNoResult 8)
    ∷ RJ four four four four (Value Closed eighth)
    ∷ RJ three two two minus_one (Value Taylor zero)
    ∷ RJ one one one minus_infinity (Value Infinite zero)
    ∷ []
