-- Demand 3 of the bench profile (document 02, 2026-14): "demand 3 holds of them without its size premise being a caller's duty:
-- if both calls pass the profile's size check, it applies". RJ with a negative p is refused alike in both. Assumes nothing.
use Rattle.std.specs.Prelude.{ℕ, ◌+◌, ◌*◌, ◌^◌, ◌≡◌, refl, Bool, true, false, not, ◌&&◌, ◌||◌, T, Float}
use Rattle.std.proofs.Common.{sym, ap₂, ◌∙◌, subst, inl, inr, zero-mul, T_not}
use Rattle.std.specs.Float.{binary64}
use Rattle.std.specs.Float.Ieee.{is_nan, lt, le, eq, of_bits}
use Rattle.std.specs.Float.Ieee.Bits.{of_bits-fits, is_true}
use Rattle.std.specs.Float.Ieee.Fits.{and_l, and_r}
use Rattle.binary64.specs.Leaves.{absolute, minimum}
use Rattle.scaling.proofs.Kind.{and₃, or_cases}
use Rattle.scaling.specs.Two.{Two}
use Rattle.scaling.proofs.Two.{lt_two}
use Rattle.scaling.proofs.One as one
use Rattle.scaling.proofs.Plain.{whole_units_of, units_times}
use Rattle.scaling.proofs.Tests.{zero_is, zero_two}
use Rattle.scaling.proofs.Signs.{lt_zero_two}
use Rattle.scaling.proofs.Pick.{choose}
use Rattle.carlson.specs.Constants.{zero}
use Rattle.carlson_arguments.specs.Checks.{any_nan2, any_nan3, any_nan4, below3, zeros_of3}
use Rattle.sorting.specs.declared.Triple.{Triple}
use Rattle.sorting.specs.Sorting.{three, rise_xy, rise_yz, rising}
use Rattle.elliprj.specs.Rj.{rj_signed, rj_of_positive}
use Rattle.calls.specs.declared.Call.{Call}
use Rattle.calls.specs.declared.Call.TheVariants.{Rc, Rf, Rd, Rg, Rj, Cel}
use Rattle.answers.specs.Answers.{number}
use Rattle.units.specs.Statement.{InRange, TimesFour, Alike, refused, least, most}
use Rattle.units.specs.Kinds.{argument_k}
use Rattle.units.proofs.Arguments.{argument}
use Rattle.units.proofs.Answers.{onward, backward, either_way}
use Rattle.units_rf.proofs.Rc.{rc_scales}
use Rattle.units_rf.proofs.Rf.{rf_scales}
use Rattle.units_rd.proofs.Rd.{rd_scales}
use Rattle.units_rg.proofs.Rg.{rg_scales}
use Rattle.units_rj.proofs.AboveZero.{rj_positive_scales}
use Rattle.rg_order.specs.Seen.{at}
use Rattle.demands.specs.Units.{up, down}
use Rattle.profile.specs.Profile.{rc_plain, rf_upward, rf_plain, rd_upward, rd_plain, rg_plain, rj_upward, rj_plain, profile_rc, profile_rf}
use Rattle.profile.specs.Profile.{profile_rd, profile_rg, profile_rj}
use Rattle.profile_arguments.specs.Arguments.{plus_zero, sized, sized2, sized3, sized4}
use Rattle.profile_answers.specs.ProfileAnswers.{profile_of}
use Rattle.profile_laws.specs.Statement.{Factor, InUnits, rc, rf, rd, rg, rj, Passes}
use Rattle.profile_laws.specs.Arguments.{F64, some_above}
use Rattle.profile_laws.specs.Checks.{
  Same,
  Same3,
  not_above_same,
  nan2_same,
  below2_same,
  zeros2_same,
  sized2_same,
  nan3_same,
  below3_same,
  zeros3_same,
  sized3_same,
  with_p,
  nan4_same,
  sized4_same,
}

-- ---- the size check is demand 3's premise
in_range : (x : Float) → F64 x → T (sized x) → InRange x
unfolding sized
in_range x f h = record {
  fit = f;
  size = elim (or_cases (eq x zero) (le least (absolute x) && le (absolute x) most) h) [
    | inl z ↦ inl z
    | inr l ↦ inr (
      and_l (le least (absolute x)) (le (absolute x) most) l,
      and_r (le least (absolute x)) (le (absolute x) most) l,
    )
  ];
}

range_sized : {x : Float} → InRange x → sized x ≡ true
unfolding sized
range_sized {x} r = elim r.size [
  | inl z ↦ rw (is_true (eq x zero) z)
  | inr l ↦ any (eq x zero) (is_true (le least (absolute x)) l.0) (is_true (le (absolute x) most) l.1)
]
  where
    any : (a : Bool) {b c : Bool} → b ≡ true → c ≡ true → (a || (b && c)) ≡ true
    any true p q = refl
    any false p q = ap₂ ◌&&◌ p q

-- ---- two arguments that belong together: both in size, and the second the first times 4 ^ u / 4 ^ d
record Scaled (u d : ℕ) (x x' : Float) : Type 0 where
  first : InRange x
  second : InRange x'
  factor : TimesFour u d x x'

module _ {u d : ℕ} where
  -- as demand 3's proofs have them, in the run with the smaller arguments first
  onto : {x x' : Float} → Scaled u d x x' → (k : ℕ) → u ≡ k + d → Two binary64 k argument_k x x'
  onto X k e = argument k d X.first X.second (onward k d e X.factor)

  back : {x x' : Float} → Scaled u d x x' → (k : ℕ) → d ≡ k + u → Two binary64 k argument_k x' x
  back X k e = argument k u X.second X.first (backward k u e X.factor)

  less_same : {x y x' y' : Float} → Scaled u d x x' → Scaled u d y y' → lt x y ≡ lt x' y'
  less_same X Y = either_way u d (λ k e. lt_two (onto X k e) (onto Y k e) tt) (λ k e. sym (lt_two (back X k e) (back Y k e) tt))

  number_first : {x x' : Float} → Scaled u d x x' → is_nan x ≡ false
  number_first {x} X = one.number (whole_units_of binary64 x X.first.fit X.factor.finite_first).1

  number_second : {x x' : Float} → Scaled u d x x' → is_nan x' ≡ false
  number_second {x} {x'} X = one.number (whole_units_of binary64 x' X.second.fit X.factor.finite_second).1

  tests : {x x' : Float} → Scaled u d x x' → Same x x'
  tests X = record {
    nan = number_first X ∙ sym (number_second X);
    below = either_way u d (λ k e. lt_zero_two (onto X k e)) (λ k e. sym (lt_zero_two (back X k e)));
    none = either_way u d (λ k e. zero_two (onto X k e)) (λ k e. sym (zero_two (back X k e)));
    size = range_sized X.first ∙ sym (range_sized X.second);
  }

-- ---- "-0 becomes +0 first": in both, or in neither
zero_scaled : {u d : ℕ} → Scaled u d zero zero
unfolding eq of_bits
zero_scaled {u} {d} =
    let o = zero_is binary64 in
    let r : InRange zero = record { fit = o.fit; size = inl tt } in
    record {
      first = r;
      second = r;
      factor = record {
        finite_first = tt;
        finite_second = tt;
        signs = refl;
        sizes = units_times o o (2 * u) (2 * d) (zero-mul (2 ^ (2 * d)) ∙ sym (zero-mul (2 ^ (2 * u))));
      };
    }

plus_zero_scaled : {u d : ℕ} {x x' : Float} → Scaled u d x x' → Scaled u d (plus_zero x) (plus_zero x')
unfolding plus_zero
plus_zero_scaled {u} {d} {x} {x'} X =
    choose (Scaled u d) (eq x zero) (eq x' zero) (tests X).none (λ h. zero_scaled) (λ h. X)

-- ---- three of them, which are checked alike and sorted alike
record Three (u d : ℕ) (t t' : Triple) : Type 0 where
  x : Scaled u d t.x t'.x
  y : Scaled u d t.y t'.y
  z : Scaled u d t.z t'.z

tests3 : {u d : ℕ} {t t' : Triple} → Three u d t t' → Same3 t t'
tests3 a = record { x = tests a.x; y = tests a.y; z = tests a.z }

module _ {u d : ℕ} where
  rise_xy_lem : (t t' : Triple) → Three u d t t' → Three u d (rise_xy t) (rise_xy t')
  unfolding rise_xy
  rise_xy_lem t t' a =
      choose (Three u d) (lt t.y t.x) (lt t'.y t'.x) (less_same a.y a.x)
      (λ h. record { x = a.y; y = a.x; z = a.z }) (λ h. a)

  rise_yz_lem : (t t' : Triple) → Three u d t t' → Three u d (rise_yz t) (rise_yz t')
  unfolding rise_yz
  rise_yz_lem t t' a =
      choose (Three u d) (lt t.z t.y) (lt t'.z t'.y) (less_same a.z a.y)
      (λ h. record { x = a.x; y = a.z; z = a.y }) (λ h. a)

  rising_two : (t t' : Triple) → Three u d t t' → Three u d (rising t) (rising t')
  unfolding rising
  rising_two t t' a = rise_xy_lem _ _ (rise_yz_lem _ _ (rise_xy_lem t t' a))

-- ---- the entries, past the zeros' signs: each check says the same of both calls, and the base entries scale
rc_alike : {u d : ℕ} (x y x' y' : Float) → Scaled u d x x' → Scaled u d y y' → Alike d u (rc_plain x y) (rc_plain x' y')
unfolding rc_plain
rc_alike {u} {d} x y x' y' X Y =
    let R = Alike d u in
    choose R (lt x zero) (lt x' zero) (tests X).below (λ h. refused)
    (λ h. choose R (eq y zero) (eq y' zero) (tests Y).none (λ i. refused)
    (λ i. choose R (any_nan2 x y) (any_nan2 x' y') (nan2_same (tests X) (tests Y)) (λ j. refused)
    (λ j. choose R (sized2 x y) (sized2 x' y') (sized2_same (tests X) (tests Y))
    (λ k. rc_scales u d x y x' y' X.first Y.first X.second Y.second X.factor Y.factor) (λ k. refused))))

module _ {u d : ℕ} (t t' : Triple) (a : Three u d t t') where
  rf_alike : Alike d u (at rf_plain t) (at rf_plain t')
  unfolding rf_plain rf_upward
  rf_alike =
      let R = Alike d u in
      let s = rising_two t t' a in
      choose R (at any_nan3 t) (at any_nan3 t') (nan3_same (tests3 a)) (λ h. refused)
      (λ h. choose R (at below3 t) (at below3 t') (below3_same (tests3 a)) (λ i. refused)
      (λ i. choose R (at zeros_of3 t) (at zeros_of3 t') (zeros3_same (tests3 a)) (λ j. refused)
      (λ j. choose R (at sized3 t) (at sized3 t') (sized3_same (tests3 a))
      (λ k. rf_scales u d _ _ _ _ _ _ s.x.first s.y.first s.z.first s.x.second s.y.second s.z.second
      s.x.factor s.y.factor s.z.factor) (λ k. refused))))

  rd_alike : Alike (3 * d) (3 * u) (at rd_plain t) (at rd_plain t')
  unfolding rd_plain rd_upward
  rd_alike =
      let R = Alike (3 * d) (3 * u) in
      let s = rise_xy_lem t t' a in
      choose R (lt (minimum t.x t.y) zero) (lt (minimum t'.x t'.y) zero)
      (below2_same (tests a.x) (tests a.y)) (λ h. refused)
      (λ h. choose R (eq t.x zero && eq t.y zero) (eq t'.x zero && eq t'.y zero)
      (zeros2_same (tests a.x) (tests a.y)) (λ i. refused)
      (λ i. choose R (le t.z zero) (le t'.z zero) (not_above_same (tests a.z)) (λ j. refused)
      (λ j. choose R (at any_nan3 t) (at any_nan3 t') (nan3_same (tests3 a)) (λ k. refused)
      (λ k. choose R (at sized3 t) (at sized3 t') (sized3_same (tests3 a))
      (λ l. rd_scales u d s.x.first s.y.first s.z.first s.x.second s.y.second s.z.second
      s.x.factor s.y.factor s.z.factor) (λ l. refused)))))

  rg_alike : Alike u d (at rg_plain t) (at rg_plain t')
  unfolding rg_plain
  rg_alike =
      let R = Alike u d in
      choose R (at below3 t) (at below3 t') (below3_same (tests3 a)) (λ h. refused)
      (λ h. choose R (at any_nan3 t) (at any_nan3 t') (nan3_same (tests3 a)) (λ i. refused)
      (λ i. choose R (at sized3 t) (at sized3 t') (sized3_same (tests3 a))
      (λ j. rg_scales u d a.x.first a.y.first a.z.first a.x.second a.y.second a.z.second
      a.x.factor a.y.factor a.z.factor) (λ j. refused)))

-- RJ's base entry, by p's sign: with p below zero both are refused, with p above zero demand 3 speaks of it
module _ {u d : ℕ} (t t' : Triple) (p p' : Float) (a : Three u d t t') (P : Scaled u d p p') where
  negative_alike : T (lt p zero) → Alike (3 * d) (3 * u) (with_p rj_of_positive t p) (with_p rj_of_positive t' p')
  unfolding rj_of_positive rj_signed
  negative_alike m =
      let R = Alike (3 * d) (3 * u) in
      choose R (with_p any_nan4 t p) (with_p any_nan4 t' p') (nan4_same (tests3 a) (tests P)) (λ h. refused)
      (λ h. choose R (eq p zero) (eq p' zero) (tests P).none (λ i. refused)
      (λ i. choose R (lt p zero) (lt p' zero) (tests P).below (λ j. refused) (λ j. absurd (T_not (lt p zero) j m))))

  signed_alike : T (not (eq p zero)) → Alike (3 * d) (3 * u) (with_p rj_of_positive t p) (with_p rj_of_positive t' p')
  signed_alike n = go (lt p zero) refl
    where
      go : (b : Bool) → lt p zero ≡ b → Alike (3 * d) (3 * u) (with_p rj_of_positive t p) (with_p rj_of_positive t' p')
      go true e = negative_alike (subst T (sym e) tt)
      go false e =
          rj_positive_scales u d _ _ _ _ _ _ _ _ a.x.first a.y.first a.z.first P.first a.x.second
          a.y.second a.z.second P.second (some_above p P.first.fit (number_first P) e n) a.x.factor
          a.y.factor a.z.factor P.factor

rj_alike : {u d : ℕ} (t t' : Triple) (p p' : Float) → Three u d t t' → Scaled u d p p'
    → Alike (3 * d) (3 * u) (with_p rj_plain t p) (with_p rj_plain t' p')
unfolding rj_plain rj_upward
rj_alike {u} {d} t t' p p' a P =
    let R = Alike (3 * d) (3 * u) in
    choose R (with_p any_nan4 t p) (with_p any_nan4 t' p') (nan4_same (tests3 a) (tests P)) (λ h. refused)
    (λ h. choose R (eq p zero) (eq p' zero) (tests P).none (λ i. refused)
    (λ i. choose R (at below3 t) (at below3 t') (below3_same (tests3 a)) (λ j. refused)
    (λ j. choose R (at zeros_of3 t) (at zeros_of3 t') (zeros3_same (tests3 a)) (λ k. refused)
    (λ k. choose R (with_p sized4 t p) (with_p sized4 t' p') (sized4_same (tests3 a) (tests P))
    (λ l. signed_alike (rising t) (rising t') p p' (rising_two t t' a) P i) (λ l. refused)))))

-- ---- THE LAW, over calls
-- a size check passes where each argument does
sized_two : (x y : Float) → T (sized2 x y) → T (sized x) × T (sized y)
unfolding sized2
sized_two x y h = (and_l (sized x) (sized y) h, and_r (sized x) (sized y) h)

sized_p : (x y z p : Float) → T (sized4 x y z p) → T (sized3 x y z) × T (sized p)
unfolding sized4
sized_p x y z p h = (and_l (sized3 x y z) (sized p) h, and_r (sized3 x y z) (sized p) h)

module _ (u d : ℕ) where
  one_of : (x x' : ℕ) → T (sized (number x)) → T (sized (number x')) → Factor u d x x'
      → Scaled u d (plus_zero (number x)) (plus_zero (number x'))
  one_of x x' h h' f = plus_zero_scaled (record {
    first = in_range (number x) (of_bits-fits binary64 x) h;
    second = in_range (number x') (of_bits-fits binary64 x') h';
    factor = f;
  })

  abbrev given : ℕ → ℕ → ℕ → Triple
  given x y z = three (plus_zero (number x)) (plus_zero (number y)) (plus_zero (number z))

  three_of : (x y z x' y' z' : ℕ) → T (sized3 (number x) (number y) (number z)) → T (sized3 (number x') (number y') (number z'))
      → Factor u d x x' → Factor u d y y' → Factor u d z z' → Three u d (given x y z) (given x' y' z')
  unfolding sized3 sized2
  three_of x y z x' y' z' h h' X Y Z =
      let a = and₃ (sized (number x)) (sized (number y)) (sized (number z)) h in
      let b = and₃ (sized (number x')) (sized (number y')) (sized (number z')) h' in
      record { x = one_of x x' a.0 b.0 X; y = one_of y y' a.1 b.1 Y; z = one_of z z' a.2 b.2 Z }

pub units_drop_out : (u d : ℕ) (c c' : Call) → InUnits u d c c' → Passes c → Passes c'
    → Alike (up c u d) (down c u d) (profile_of c) (profile_of c')
unfolding profile_of profile_rc profile_rf profile_rd profile_rg profile_rj
units_drop_out u d (Rc x y) (Rc x' y') (rc X Y) h h' =
    let a = sized_two (number x) (number y) h in
    let b = sized_two (number x') (number y') h' in
    rc_alike _ _ _ _ (one_of u d x x' a.0 b.0 X) (one_of u d y y' a.1 b.1 Y)
units_drop_out u d (Rf x y z) (Rf x' y' z') (rf X Y Z) h h' = rf_alike _ _ (three_of u d x y z x' y' z' h h' X Y Z)
units_drop_out u d (Rd x y z) (Rd x' y' z') (rd X Y Z) h h' = rd_alike _ _ (three_of u d x y z x' y' z' h h' X Y Z)
units_drop_out u d (Rg x y z) (Rg x' y' z') (rg X Y Z) h h' = rg_alike _ _ (three_of u d x y z x' y' z' h h' X Y Z)
units_drop_out u d (Rj x y z p) (Rj x' y' z' p') (rj X Y Z P) h h' =
    let a = sized_p (number x) (number y) (number z) (number p) h in
    let b = sized_p (number x') (number y') (number z') (number p') h' in
    rj_alike _ _ _ _ (three_of u d x y z x' y' z' a.0 b.0 X Y Z) (one_of u d p p' a.1 b.1 P)
units_drop_out u d (Rc x y) c' r h h' = elim r [ ]
units_drop_out u d (Rf x y z) c' r h h' = elim r [ ]
units_drop_out u d (Rd x y z) c' r h h' = elim r [ ]
units_drop_out u d (Rg x y z) c' r h h' = elim r [ ]
units_drop_out u d (Rj x y z p) c' r h h' = elim r [ ]
units_drop_out u d (Cel kc p a b) c' r h h' = elim r [ ]
