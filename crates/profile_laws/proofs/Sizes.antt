-- The profile's size check (document 02, 2026-14): "then 23 size outside the profile, infinities included". Where none of the
-- base's checks on arguments refuses and the sizes do not pass, the answer is 23; where they pass it never is. And demand 1: a
-- finite value, or one of the entry's numbers. Assumes nothing.
use Rattle.std.specs.Prelude.{ℕ, ◌≡◌, refl, Bool, true, false, not, ◌&&◌, ◌||◌, cond, List, [], ◌∷◌, T}
use Rattle.std.proofs.Common.{sym, subst, T_not, Err}
use Rattle.std.proofs.Math.Dec.{not_T}
use Rattle.std.specs.Float.{nan, inf, binary64}
use Rattle.std.specs.Float.Ieee.{lt, le, eq, of_bits}
use Rattle.std.specs.Float.Ieee.Bits.{of_bits-fits}
use Rattle.refusals.specs.declared.Refusal.{Refusal}
use Rattle.refusals.specs.Numbers.{refusal_number}
use Rattle.refusals.specs.declared.Refusal.TheVariants.{BelowZero, NanGiven, OutsideProfile, ZNotAbove, ZeroGiven, Zeros}
use Rattle.binary64.specs.Leaves.{absolute, minimum}
use Rattle.binary64.specs.Operators.{bits}
use Rattle.carlson.specs.Constants.{zero}
use Rattle.carlson_arguments.specs.Checks.{any_nan2, any_nan3, any_nan4, below3, zeros_of3}
use Rattle.carlson.specs.Only.{among, part, Only, refused, Finite}
use Rattle.carlson.proofs.Only.{longer}
use Rattle.carlson.specs.Answer.{Answer}
use Rattle.sorting.specs.declared.Triple.{Triple}
use Rattle.sorting.specs.Sorting.{three}
use Rattle.sorting.specs.Permuted.{mapped}
use Rattle.calls.specs.declared.Call.{Call}
use Rattle.calls.specs.declared.Call.TheVariants.{Rc, Rf, Rd, Rg, Rj, Cel}
use Rattle.answers.specs.Answers.{number}
use Rattle.units.specs.Statement.{least, most}
use Rattle.demands.specs.Total.{rc_numbers, rf_numbers, rd_numbers, rg_numbers, rj_signed_numbers, cel_numbers}
use Rattle.demands.proofs.Total.{rc_only, rf_only, rd_only, rg_only, rj_positive_only, cel_only}
use Rattle.rg_order.specs.Seen.{at}
use Rattle.profile.specs.Profile.{rc_plain, rf_upward, rf_plain, rd_upward, rd_plain, rg_plain, rj_upward, rj_plain}
use Rattle.profile.specs.Profile.{profile_rc, profile_rf, profile_rd, profile_rg, profile_rj}
use Rattle.profile_arguments.specs.Arguments.{plus_zero, sized, sized2, sized3, sized4}
use Rattle.profile_answers.specs.ProfileAnswers.{profile_of}
use Rattle.profile_laws.specs.Statement.{Passes}
use Rattle.profile_laws.specs.Checks.{
  Same,
  Same3,
  not_above_same,
  nan2_same,
  below2_same,
  zeros2_same,
  sized2_same,
  nan3_same,
  below3_same,
  zeros3_same,
  sized3_same,
  with_p,
  nan4_same,
  sized4_same,
  kept_same,
}
use Rattle.profile_laws.specs.Sizes.{Told, any_of, argument_numbers, base_numbers, by_arguments, by_base, by_size, checks_of, passes, profile_numbers}

-- ---- what fails the size check
pub nan_outside : sized nan ≡ false
unfolding sized absolute lt le eq of_bits
nan_outside = refl

pub infinity_outside : (s : Bool) → sized (inf s) ≡ false
unfolding sized absolute lt le eq of_bits
infinity_outside true = refl
infinity_outside false = refl

-- both ends are in, and their neighbours outside are not
pub ends_in : (sized least ≡ true) × (sized most ≡ true)
unfolding sized absolute lt le eq of_bits
ends_in = (refl, refl)

pub neighbours_out : (sized (bits 0x3BEF_FFFF_FFFF_FFFF) ≡ false) × (sized (bits 0x43F0_0000_0000_0001) ≡ false)
unfolding sized absolute lt le eq of_bits
neighbours_out = (refl, refl)

passes_yes : (c : Call) → Passes c → T (passes c)
passes_yes (Rc x y) h = h
passes_yes (Rf x y z) h = h
passes_yes (Rd x y z) h = h
passes_yes (Rg x y z) h = h
passes_yes (Rj x y z p) h = h
passes_yes (Cel kc p a b) h = tt

passes_no : (c : Call) → (Passes c → ⊥) → T (not (passes c))
passes_no (Rc x y) h = not_T (passes (Rc x y)) h
passes_no (Rf x y z) h = not_T (passes (Rf x y z)) h
passes_no (Rd x y z) h = not_T (passes (Rd x y z)) h
passes_no (Rg x y z) h = not_T (passes (Rg x y z)) h
passes_no (Rj x y z p) h = not_T (passes (Rj x y z p)) h
passes_no (Cel kc p a b) h = absurd (h tt)

module _ {ns ms : List ℕ} where
  -- through one check, and through that for sizes; the definition makes them past "-0 becomes +0"
  check : {b b' e s : Bool} {a : Answer} → b ≡ b' → (r : Refusal) → T (among (refusal_number r) ns) → Told ns ms e s a
      → Told ns ms (b' || e) s (cond b (Err r) a)
  check {b} {b'} {e} {s} {a} same r h t =
      subst (λ (c : Bool). Told ns ms (b' || e) s (cond c (Err r) a)) (sym same) (go b')
    where
      go : (b : Bool) → Told ns ms (b || e) s (cond b (Err r) a)
      go true = by_arguments (refused h)
      go false = t

  ends : {s s' : Bool} {a : Answer} → s ≡ s' → Only Finite ms a → Told ns ms false s' (cond s a (Err OutsideProfile))
  ends {s} {s'} {a} same o = subst (λ (c : Bool). Told ns ms false s' (cond c a (Err OutsideProfile))) (sym same) (go s')
    where
      go : (s : Bool) → Told ns ms false s (cond s a (Err OutsideProfile))
      go true = by_base o
      go false = by_size

-- the tests say the same of an argument before and after "-0 becomes +0"
one : (x : ℕ) → Same (plus_zero (number x)) (number x)
one x = kept_same (number x) (of_bits-fits binary64 x)

abbrev numbers : ℕ → ℕ → ℕ → Triple
numbers x y z = three (number x) (number y) (number z)

all : (x y z : ℕ) → Same3 (mapped plus_zero (numbers x y z)) (numbers x y z)
all x y z = record { x = one x; y = one y; z = one z }

-- THE LAW, over calls
pub told : (c : Call) → Told (argument_numbers c) (base_numbers c) (any_of (checks_of c)) (passes c) (profile_of c)
unfolding profile_of profile_rc profile_rf profile_rd profile_rg profile_rj rc_plain rf_plain rf_upward rd_plain rd_upward rg_plain rj_plain
    rj_upward
told (Rc x y) =
    check (one x).below BelowZero tt (check (one y).none ZeroGiven tt (check (nan2_same (one x) (one y)) NanGiven tt
    (ends (sized2_same (one x) (one y)) (rc_only _ _))))
told (Rf x y z) =
    let a = all x y z in
    check (nan3_same a) NanGiven tt (check (below3_same a) BelowZero tt (check (zeros3_same a) Zeros tt
    (ends (sized3_same a) (rf_only _ _ _))))
told (Rd x y z) =
    let a = all x y z in
    check (below2_same (one x) (one y)) BelowZero tt (check (zeros2_same (one x) (one y)) Zeros tt
    (check (not_above_same (one z)) ZNotAbove tt (check (nan3_same a) NanGiven tt (ends (sized3_same a) (rd_only _ _ _)))))
told (Rg x y z) =
    let a = all x y z in
    check (below3_same a) BelowZero tt (check (nan3_same a) NanGiven tt (ends (sized3_same a) (rg_only _ _ _)))
told (Rj x y z p) =
    let a = all x y z in
    check (nan4_same a (one p)) NanGiven tt (check (one p).none ZeroGiven tt (check (below3_same a) BelowZero tt
    (check (zeros3_same a) Zeros tt (ends (sized4_same a (one p)) (rj_positive_only _ _ _ _)))))
told (Cel kc p a b) = by_base (cel_only _ _ _ _)

-- ---- so 23 is given where no check before it refuses and a size is outside
pub outside_refused : (c : Call) → T (not (any_of (checks_of c))) → (Passes c → ⊥) → profile_of c ≡ Err OutsideProfile
outside_refused c h p = go (told c) h (passes_no c p)
  where
    go : {ns ms : List ℕ} {e s : Bool} {a : Answer} → Told ns ms e s a → T (not e) → T (not s) → a ≡ Err OutsideProfile
    go (by_arguments o) h p = absurd h
    go by_size h p = refl
    go (by_base o) h p = absurd p

-- what the lists say of each other, and of 23
record Sound (ns ms : List ℕ) : Type 0 where
  arguments : T (part ns (refusal_number OutsideProfile ∷ ms))
  base : T (part ms (refusal_number OutsideProfile ∷ ms))
  not_argument : among (refusal_number OutsideProfile) ns ≡ false
  not_base : among (refusal_number OutsideProfile) ms ≡ false

sound : (c : Call) → Sound (argument_numbers c) (base_numbers c)
sound (Rc x y) = record { arguments = tt; base = tt; not_argument = refl; not_base = refl }
sound (Rf x y z) = record { arguments = tt; base = tt; not_argument = refl; not_base = refl }
sound (Rd x y z) = record { arguments = tt; base = tt; not_argument = refl; not_base = refl }
sound (Rg x y z) = record { arguments = tt; base = tt; not_argument = refl; not_base = refl }
sound (Rj x y z p) = record { arguments = tt; base = tt; not_argument = refl; not_base = refl }
sound (Cel kc p a b) = record { arguments = tt; base = tt; not_argument = refl; not_base = refl }

-- and nowhere else: "a refusal for size" is none for anything else
pub outside_alone : (c : Call) → profile_of c ≡ Err OutsideProfile → T (not (any_of (checks_of c))) × (Passes c → ⊥)
outside_alone c e = let r = go (told c) (sound c) e in (r.0, λ p. T_not (passes c) r.1 (passes_yes c p))
  where
    never : {ns : List ℕ} {a : Answer} → Only Finite ns a → among (refusal_number OutsideProfile) ns ≡ false → a ≡ Err OutsideProfile → ⊥
    never {ns} o h e = named (subst (Only Finite ns) e o) h
      where
        named : {r : Refusal} → Only Finite ns (Err r) → among (refusal_number r) ns ≡ false → ⊥
        named (refused t) h = subst T h t

    go : {ns ms : List ℕ} {e s : Bool} {a : Answer} → Told ns ms e s a → Sound ns ms → a ≡ Err OutsideProfile
        → T (not e) × T (not s)
    go (by_arguments o) l e = absurd (never o l.not_argument e)
    go by_size l e = (tt, tt)
    go (by_base o) l e = absurd (never o l.not_base e)

-- ---- DEMAND 1 of the profile: a finite value, or one of the entry's numbers
pub profile_only : (c : Call) → Only Finite (profile_numbers c) (profile_of c)
profile_only c = go (told c) (sound c)
  where
    go : {ns ms : List ℕ} {e s : Bool} {a : Answer} → Told ns ms e s a → Sound ns ms → Only Finite (refusal_number OutsideProfile ∷ ms) a
    go {ns} {ms} (by_arguments o) l = longer ns (refusal_number OutsideProfile ∷ ms) l.arguments o
    go by_size l = refused tt
    go {ns} {ms} (by_base o) l = longer ms (refusal_number OutsideProfile ∷ ms) l.base o

-- and 0, which a C program takes for a value, is no refusal's number
pub never_zero : (c : Call) → among 0 (profile_numbers c) ≡ false
never_zero (Rc x y) = refl
never_zero (Rf x y z) = refl
never_zero (Rd x y z) = refl
never_zero (Rg x y z) = refl
never_zero (Rj x y z p) = refl
never_zero (Cel kc p a b) = refl
