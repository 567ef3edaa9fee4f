-- The profile's size check (document 02, 2026-14): "then 23 size outside the profile, infinities included". Where none of the
-- base's checks on arguments refuses and the sizes do not pass, the answer is 23; where they pass it never is. And demand 1: a
-- finite value, or one of the entry's numbers. Assumes nothing.
use Rattle.std.specs.Prelude.{ℕ, ◌≡◌, refl, Bool, true, false, not, ◌&&◌, ◌||◌, cond, List, [], ◌∷◌, T, Err}
use Rattle.std.proofs.Common.{sym, subst, T_not}
use Rattle.std.proofs.Math.Dec.{not_T}
use Rattle.std.specs.Float.{nan, inf, binary64}
use Rattle.std.specs.Float.Ieee.{lt, le, eq, of_bits}
use Rattle.std.specs.Float.Ieee.Bits.{of_bits-fits}
use Rattle.refusals.specs.Numbers.{refusal_number, refusal_numbers}
use Rattle.refusals.specs.declared.Refusal.TheVariants.{BelowZero, NanGiven, OutsideProfile, ZNotAbove, ZeroGiven, Zeros}
use Rattle.binary64.specs.Leaves.{absolute, minimum}
use Rattle.binary64.specs.Operators.{bits}
use Rattle.carlson.specs.Constants.{zero}
use Rattle.carlson_arguments.specs.Checks.{any_nan2, any_nan3, any_nan4, below3, zeros_of3}
use Rattle.carlson.specs.Only.{among, part, Only, refused, Finite}
use Rattle.carlson.proofs.Only.{longer}
use Rattle.carlson.specs.Answer.{Answer}
use Rattle.sorting.specs.declared.Triple.{Triple}
use Rattle.sorting.specs.Sorting.{three}
use Rattle.sorting.specs.Permuted.{mapped}
use Rattle.calls.specs.declared.Call.{Call}
use Rattle.calls.specs.declared.Call.TheVariants.{Rc, Rf, Rd, Rg, Rj, Cel}
use Rattle.answers.specs.Answers.{number}
use Rattle.units.specs.Statement.{least, most}
use Rattle.demands.specs.Total.{rc_numbers, rf_numbers, rd_numbers, rg_numbers, rj_signed_numbers, cel_numbers}
use Rattle.demands.proofs.Total.{rc_only, rf_only, rd_only, rg_only, rj_positive_only, cel_only}
use Rattle.rg_order.specs.Seen.{at}
use Rattle.profile.specs.Profile.{rc_plain, rf_upward, rf_plain, rd_upward, rd_plain, rg_plain, rj_upward, rj_plain}
use Rattle.profile.specs.Profile.{profile_rc, profile_rf, profile_rd, profile_rg, profile_rj}
use Rattle.profile_arguments.specs.Arguments.{plus_zero, sized, sized2, sized3, sized4}
use Rattle.profile_answers.specs.ProfileAnswers.{profile_of}
use Rattle.profile_laws.specs.Statement.{Passes}
use Rattle.profile_laws.specs.Checks.{
  Same,
  Same3,
  not_above_same,
  nan2_same,
  below2_same,
  zeros2_same,
  sized2_same,
  nan3_same,
  below3_same,
  zeros3_same,
  sized3_same,
  with_p,
  nan4_same,
  sized4_same,
  kept_same,
}

-- ---- the numbers of each entry
-- "the base ones first where they rest on arguments alone"
abbrev pub argument_numbers : Call → List ℕ
argument_numbers (Rc x y) = refusal_numbers (BelowZero ∷ ZeroGiven ∷ NanGiven ∷ [])
argument_numbers (Rf x y z) = refusal_numbers (NanGiven ∷ BelowZero ∷ Zeros ∷ [])
argument_numbers (Rd x y z) = refusal_numbers (BelowZero ∷ Zeros ∷ ZNotAbove ∷ NanGiven ∷ [])
argument_numbers (Rg x y z) = refusal_numbers (BelowZero ∷ NanGiven ∷ [])
argument_numbers (Rj x y z p) = refusal_numbers (NanGiven ∷ ZeroGiven ∷ BelowZero ∷ Zeros ∷ [])
-- cel is no call of the profile: the base entry alone answers
argument_numbers (Cel kc p a b) = []

-- those of the base entry that is called, 21 among RJ's
abbrev pub base_numbers : Call → List ℕ
base_numbers (Rc x y) = rc_numbers
base_numbers (Rf x y z) = rf_numbers
base_numbers (Rd x y z) = rd_numbers
base_numbers (Rg x y z) = rg_numbers
base_numbers (Rj x y z p) = rj_signed_numbers
base_numbers (Cel kc p a b) = cel_numbers

-- all that the profile's entry can give
abbrev pub profile_numbers : Call → List ℕ
profile_numbers c = refusal_number OutsideProfile ∷ base_numbers c

-- ---- the checks of each entry
-- those of the base that rest on arguments alone, in the base order
abbrev pub checks_of : Call → List Bool
checks_of (Rc x y) = lt (number x) zero ∷ eq (number y) zero ∷ any_nan2 (number x) (number y) ∷ []
checks_of (Rf x y z) = let t = three (number x) (number y) (number z) in at any_nan3 t ∷ at below3 t ∷ at zeros_of3 t ∷ []
checks_of (Rd x y z) =
    lt (minimum (number x) (number y)) zero ∷ (eq (number x) zero && eq (number y) zero) ∷ le (number z) zero
    ∷ any_nan3 (number x) (number y) (number z) ∷ []
checks_of (Rg x y z) = let t = three (number x) (number y) (number z) in at below3 t ∷ at any_nan3 t ∷ []
checks_of (Rj x y z p) =
    let t = three (number x) (number y) (number z) in
    with_p any_nan4 t (number p) ∷ eq (number p) zero ∷ at below3 t ∷ at zeros_of3 t ∷ []
checks_of (Cel kc p a b) = []

-- whether one of them refuses
abbrev pub any_of : List Bool → Bool
any_of [] = false
any_of (b ∷ bs) = b || any_of bs

-- whether the sizes are in the profile: `Passes`, as a Boolean
abbrev pub passes : Call → Bool
passes (Rc x y) = sized2 (number x) (number y)
passes (Rf x y z) = sized3 (number x) (number y) (number z)
passes (Rd x y z) = sized3 (number x) (number y) (number z)
passes (Rg x y z) = sized3 (number x) (number y) (number z)
passes (Rj x y z p) = sized4 (number x) (number y) (number z) (number p)
passes (Cel kc p a b) = true

-- ---- what is answered, by whether a check on arguments refuses, and by whether the sizes pass
pub data Told (ns ms : List ℕ) : Bool → Bool → Answer → Type 0 where
  by_arguments : {s : Bool} {a : Answer} → Only Finite ns a → Told ns ms true s a
  by_size : Told ns ms false false (Err OutsideProfile)
  by_base : {a : Answer} → Only Finite ms a → Told ns ms false true a
