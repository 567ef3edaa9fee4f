-- The numbers for no (document 01, "Numbers for no"; from 11 on document 02; the last three are ours). Definitions only.
use Rattle.std.specs.Prelude.{ℕ, List, [], ◌∷◌, Result, Ok, Err}
use Rattle.refusals.specs.declared.Refusal.{Refusal}
use Rattle.refusals.specs.declared.Refusal.TheVariants.{
  NanGiven,
  BelowZero,
  Zeros,
  ZeroGiven,
  ZNotAbove,
  NoResult,
  RcNoResult,
  RgNoResult,
  AgmSpent,
  TooDeep,
  OutOfRange,
  Height,
  SumTooLarge,
  ListCut,
  NumberBad,
  UnknownFunction,
  NoRoom,
  TooMany,
  SeveralInfinite,
  AOrBInfinite,
  WrongSign,
  NumbersDiffer,
  OutsideProfile,
  Amplitude,
  TooLarge,
  NoNumber,
}

abbrev pub refusal_number : Refusal → ℕ
-- an argument is NaN
refusal_number NanGiven = 1
-- an argument is below zero that must not be
refusal_number BelowZero = 2
-- more than one of RF's or RJ's x, y, z is zero; RD's x and y are
refusal_number Zeros = 3
-- RC's y, RJ's p, or cel's kc or p is zero
refusal_number ZeroGiven = 4
-- RD's z is zero or less
refusal_number ZNotAbove = 5
-- RF, RD, RJ or cel ends without a finite result
refusal_number NoResult = 6
-- RC does
refusal_number RcNoResult = 7
-- RG does
refusal_number RgNoResult = 8
-- the cap on RD's or RG's mean is spent
refusal_number AgmSpent = 9
-- a fifth nested call of RJ would be needed
refusal_number TooDeep = 10
-- the swing's length or gravity is out of range
refusal_number OutOfRange = 11
-- the swing's release height is
refusal_number Height = 12
-- the step log's total would pass 2^64 - 1
refusal_number SumTooLarge = 13
-- a work list stops inside a job
refusal_number ListCut = 14
-- a work list has a number over 64 bits, or not in its shortest form
refusal_number NumberBad = 15
-- a job's function is none that work lists know
refusal_number UnknownFunction = 16
-- a job is longer than what is left of the buffer
refusal_number NoRoom = 17
-- a report would hold more than 2^32 - 1 calls
refusal_number TooMany = 18
-- more than one of cel's arguments is infinite
refusal_number SeveralInfinite = 19
-- cel's a or b is infinite
refusal_number AOrBInfinite = 20
-- RJ's p has the wrong sign for this entry
refusal_number WrongSign = 21
-- a table's claims and its work list's jobs differ in number
refusal_number NumbersDiffer = 22
-- an argument is outside the bench profile
refusal_number OutsideProfile = 23
-- a peak is not from 1 to 2^53
refusal_number Amplitude = 24
-- a decimal number is beyond the largest f64
refusal_number TooLarge = 25
-- a text is no decimal number
refusal_number NoNumber = 26

-- of several
abbrev pub refusal_numbers : List Refusal → List ℕ
refusal_numbers [] = []
refusal_numbers (r ∷ rs) = refusal_number r ∷ refusal_numbers rs

-- what a function for C returns: 0 where it was done
abbrev pub code_of : Result (Unit {0}) Refusal → ℕ
code_of (Ok done) = 0
code_of (Err r) = refusal_number r
