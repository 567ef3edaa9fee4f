-- The door in front of an entry: each argument within the limits of rescaling, or the first one zero. THE LAW: no check refuses
-- such arguments, and nothing is rescaled. Assumes nothing.
use Rattle.std.specs.Prelude.{ℕ, zero, suc, ◌+◌, ◌*◌, ◌<◌, ◌≤◌, ◌≡◌, Bool, true, ◌&&◌, ◌||◌, ltb, ℤ, Float}
use Rattle.std.proofs.Math.Path.{refl}
use Rattle.std.proofs.Common.{sym, ap, ap₂, ◌∙◌, subst, true≢false, le_of_lt, zero-lt-suc, zero-mul, mul-pos, arith, ltb-true, lt-ltb, le-ltb}
use Rattle.std.proofs.Math.Bool.{false}
use Rattle.std.specs.Float.{nan, inf, fin}
use Rattle.std.specs.Float.Ieee.{up, down, is_nan, lt, eq, le, of_bits}
use Rattle.std.specs.Float.Ieee.Fits.{up_pos, down_pos}
use Rattle.std.specs.Float.Ieee.Scale.{finite}
use Rattle.binary64.specs.Leaves.{absolute, maximum, minimum}
use Rattle.binary64.specs.Tests.{zero_above, number, number_above, Zero, a_zero, is_zero}
use Rattle.derived.specs.Limits.{limit, reciprocal}
use Rattle.carlson.specs.Constants.{infinity}
use Rattle.carlson_arguments.specs.Checks.{
  any_nan2,
  any_nan3,
  any_nan4,
  any_infinite2,
  any_infinite3,
  any_infinite4,
  below3,
  zeros_of3,
}
use Rattle.carlson_arguments.specs.Rescaling.{
  scale_of2,
  scale_of3,
  scale_of4,
  beyond_limits,
  survive2,
  survive3,
  survive4,
  rescales2,
  rescales3,
  rescales4,
  rescaling2,
  rescaling3,
}
use Rattle.carlson.proofs.Only.{chosen}
use Rattle.carlson_arguments.specs.Door.{moderate, moderate2, moderate3, moderate4}

-- ---- what it tells of an argument
pub record Moderate (x : Float) : Type 0 where
  pub number : is_nan x ≡ false
  pub size : absolute x ≡ x
  pub above : lt zero_above x ≡ true
  pub not_below : lt x zero_above ≡ false
  pub not_zero : eq x zero_above ≡ false
  pub bounded : eq x infinity ≡ false
  pub not_small : lt x reciprocal ≡ false
  pub not_large : lt limit x ≡ false
  pub over_zero : (e : ℤ) → lt (fin false zero e) x ≡ true

turned : (a b : ℕ) → ltb a b ≡ true → ltb b a ≡ false
turned a b h = le-ltb b a (le_of_lt (ltb-true a b h))

none_below : (a b : ℕ) → b ≡ 0 → ltb a b ≡ true → ⊥
none_below a b e h = omega (arith, ltb-true a b h)

lt_turned : (x y : Float) → lt x y ≡ true → lt y x ≡ false
unfolding lt
lt_turned nan y h = absurd (true≢false (sym h))
lt_turned (inf s) nan h = absurd (true≢false (sym h))
lt_turned (inf true) (inf true) h = refl
lt_turned (inf true) (inf false) h = refl
lt_turned (inf false) (inf t) h = absurd (true≢false (sym h))
lt_turned (inf true) (fin t n d) h = refl
lt_turned (inf false) (fin t n d) h = absurd (true≢false (sym h))
lt_turned (fin s m e) nan h = absurd (true≢false (sym h))
lt_turned (fin s m e) (inf true) h = absurd (true≢false (sym h))
lt_turned (fin s m e) (inf false) h = refl
lt_turned (fin false m e) (fin false n d) h = turned (m * up e * down d) (n * up d * down e) h
lt_turned (fin false m e) (fin true n d) h = absurd (true≢false (sym h))
lt_turned (fin true m e) (fin false n d) h = refl
lt_turned (fin true m e) (fin true n d) h = turned (n * up d * down e) (m * up e * down d) h

no_number : {x : Float} → Zero x → number x ≡ false
no_number (a_zero s e) = refl

unequal : (m : ℕ) (e : ℤ) → eq (fin false (suc m) e) zero_above ≡ false
unequal m e = go (eq (fin false (suc m) e) zero_above) refl
  where
    go : (b : Bool) → eq (fin false (suc m) e) zero_above ≡ b → b ≡ false
    go true h = absurd (true≢false (no_number (is_zero (fin false (suc m) e) h)))
    go false h = refl

nothing : (a b : ℕ) → 0 * a * b ≡ 0
nothing a b = ap (λ (n : ℕ). n * b) (zero-mul a) ∙ zero-mul b

no_zero : (e : ℤ) → lt reciprocal (fin false zero e) ≡ true → ⊥
unfolding lt of_bits
no_zero e h = none_below _ _ (nothing (up e) _) h

over : (m : ℕ) (d e : ℤ) → lt (fin false zero e) (fin false (suc m) d) ≡ true
unfolding lt
over m d e =
    let z : 0 * up e * down d ≡ 0 = nothing (up e) (down d) in
    let p : 0 < suc m * up d * down e = mul-pos (mul-pos (zero-lt-suc m) (up_pos d)) (down_pos e) in
    lt-ltb (0 * up e * down d) (suc m * up d * down e) (omega arith)

pub both_true : (a b : Bool) → a && b ≡ true → (a ≡ true) × (b ≡ true)
both_true true b h = (refl, h)
both_true false b h = absurd (true≢false (sym h))

-- a number above zero, between the limits
form : (x : Float) → lt reciprocal x ≡ true → lt x limit ≡ true → lt x reciprocal ≡ false → lt limit x ≡ false → Moderate x
form nan h k p q = absurd (true≢false (sym h ∙ (unfold lt of_bits in refl)))
form (inf true) h k p q = absurd (true≢false (sym h ∙ (unfold lt of_bits in refl)))
form (inf false) h k p q = absurd (true≢false (sym k ∙ (unfold lt of_bits in refl)))
form (fin true m e) h k p q = absurd (true≢false (sym h ∙ (unfold lt of_bits in refl)))
form (fin false zero e) h k p q = absurd (no_zero e h)
form (fin false (suc m) e) h k p q = record {
  number = unfold is_nan in refl;
  size = unfold absolute in refl;
  above = number_above m e;
  not_below = lt_turned zero_above (fin false (suc m) e) (number_above m e);
  not_zero = unequal m e;
  bounded = unfold eq of_bits in refl;
  not_small = p;
  not_large = q;
  over_zero = over m e;
}

pub moderate_told : (x : Float) → moderate x ≡ true → Moderate x
unfolding moderate
moderate_told x h =
    let b = both_true (lt reciprocal x) (lt x limit) h in
    form x b.0 b.1 (lt_turned reciprocal x b.0) (lt_turned x limit b.1)

pub not_le_zero : {x : Float} → Moderate x → le x zero_above ≡ false
unfolding le
not_le_zero m = ap₂ ◌||◌ m.not_below m.not_zero

pub larger : {x y : Float} → Moderate x → Moderate y → Moderate (maximum x y)
unfolding maximum
larger {x} {y} X Y = chosen Moderate (is_nan x) Y (chosen Moderate (lt x y) Y X)

within : {s : Float} → Moderate s → beyond_limits s ≡ false
within {s} m = go (finite s) (lt zero_above s) (lt limit s) (lt s reciprocal) m.not_large m.not_small
  where
    go : (a b c d : Bool) → c ≡ false → d ≡ false → a && (b && (c || d)) ≡ false
    go a b true d e f = absurd (true≢false e)
    go a b false true e f = absurd (true≢false f)
    go true true false false e f = refl
    go true false false false e f = refl
    go false b false false e f = refl

-- ---- the first argument may be a zero, of either sign
pub data Fair : Float → Type 0 where
  plain : {x : Float} → Moderate x → Fair x
  none : {x : Float} → Zero x → Fair x

fair_told : (x : Float) → moderate x || eq x zero_above ≡ true → Fair x
fair_told x h = go (moderate x) refl h
  where
    go : (b : Bool) → moderate x ≡ b → b || eq x zero_above ≡ true → Fair x
    go true e h = plain (moderate_told x e)
    go false e h = none (is_zero x h)

fair_number : {x : Float} → Fair x → is_nan x ≡ false
fair_number (plain X) = X.number
fair_number (none (a_zero s e)) = unfold is_nan in refl

zero_not_below : (s : Bool) (e : ℤ) → lt (fin s zero e) zero_above ≡ false
unfolding lt of_bits
zero_not_below true e = le-ltb _ _ (low (0 * up e * 1) (0 * 1 * down e) (nothing (up e) 1) (nothing 1 (down e)))
  where
    low : (a b : ℕ) → a ≡ 0 → b ≡ 0 → a + b ≤ 0
    low a b p q = omega arith
zero_not_below false e = le-ltb _ _ (low (0 * up e * 1) (0 * 1 * down e) (nothing 1 (down e)))
  where
    low : (a b : ℕ) → b ≡ 0 → b ≤ a
    low a b q = omega arith

fair_not_below : {x : Float} → Fair x → lt x zero_above ≡ false
fair_not_below (plain X) = X.not_below
fair_not_below (none (a_zero s e)) = zero_not_below s e

fair_bounded : {x : Float} → Fair x → eq x infinity ≡ false
fair_bounded (plain X) = X.bounded
fair_bounded (none (a_zero s e)) = unfold eq of_bits in refl

fair_larger : {x y : Float} → Fair x → Moderate y → Moderate (maximum (absolute x) y)
fair_larger {y = y} (plain X) Y = subst (λ (v : Float). Moderate (maximum v y)) (sym X.size) (larger X Y)
fair_larger {y = y} (none (a_zero s e)) Y = unfold absolute maximum is_nan in rw (Y.over_zero e) Y

-- ---- THE LAW, of two arguments: the second one's size is moderate
sized_number : (y : Float) → Moderate (absolute y) → is_nan y ≡ false
unfolding absolute
sized_number nan m = m.number
sized_number (inf s) m = unfold is_nan in refl
sized_number (fin s n e) m = unfold is_nan in refl

sized_bounded : (y : Float) → Moderate (absolute y) → eq y infinity ≡ false
unfolding absolute
sized_bounded nan m = unfold eq of_bits in refl
sized_bounded (inf true) m = unfold eq of_bits in refl
sized_bounded (inf false) m = m.bounded
sized_bounded (fin s n e) m = unfold eq of_bits in refl

no_zero_sized : {y : Float} → Zero y → Moderate (absolute y) → ⊥
unfolding absolute
no_zero_sized (a_zero s e) m = true≢false (sym (m.over_zero e) ∙ lt_turned _ _ (m.over_zero e))

pub record Inside2 (x y : Float) : Type 0 where
  pub one : Fair x
  pub two : Moderate (absolute y)

pub inside2 : (x y : Float) → moderate2 x y ≡ true → Inside2 x y
unfolding moderate2
inside2 x y h =
    let a = both_true (moderate x || eq x zero_above) (moderate (absolute y)) h in
    record { one = fair_told x a.0; two = moderate_told (absolute y) a.1 }

module _ {x y : Float} (i : Inside2 x y) where
  pub not_below : lt x zero_above ≡ false
  not_below = fair_not_below i.one

  pub not_zero : eq y zero_above ≡ false
  not_zero = go (eq y zero_above) refl
    where
      go : (b : Bool) → eq y zero_above ≡ b → b ≡ false
      go true h = absurd (no_zero_sized (is_zero y h) i.two)
      go false h = refl

  pub no_nan2 : any_nan2 x y ≡ false
  no_nan2 = ap₂ ◌||◌ (fair_number i.one) (sized_number y i.two)

  pub none_infinite2 : any_infinite2 x y ≡ false
  none_infinite2 = ap₂ ◌||◌ (fair_bounded i.one) (sized_bounded y i.two)

  pub unscaled2 : {A : Type 0} (back : A → Float → A) (steps : Float → Float → A) → rescaling2 back steps x y ≡ steps x y
  unfolding rescaling2
  unscaled2 back steps =
      rw (ap (λ (b : Bool). b && survive2 x y (scale_of2 x y)) (within (fair_larger i.one i.two)))

-- ---- and of three arguments and of four
pub record Inside3 (x y z : Float) : Type 0 where
  pub one : Fair x
  pub two : Moderate y
  pub three : Moderate z

pub inside3 : (x y z : Float) → moderate3 x y z ≡ true → Inside3 x y z
unfolding moderate3
inside3 x y z h =
    let a = both_true (moderate x || eq x zero_above) (moderate y && moderate z) h in
    let b = both_true (moderate y) (moderate z) a.1 in
    record { one = fair_told x a.0; two = moderate_told y b.0; three = moderate_told z b.1 }

pub record Inside4 (x y z p : Float) : Type 0 where
  pub three : Inside3 x y z
  pub last : Moderate p

pub inside4 : (x y z p : Float) → moderate4 x y z p ≡ true → Inside4 x y z p
unfolding moderate4
inside4 x y z p h =
    let a = both_true (moderate3 x y z) (moderate p) h in
    record { three = inside3 x y z a.0; last = moderate_told p a.1 }

-- the smaller of two that are not below zero
least : (x y : Float) → lt x zero_above ≡ false → lt y zero_above ≡ false → lt (minimum x y) zero_above ≡ false
unfolding minimum
least x y p q =
    let Q : Float → Type 0 = λ v. lt v zero_above ≡ false in chosen Q (is_nan x) q (chosen Q (lt y x) q p)

module _ {x y z : Float} (i : Inside3 x y z) where
  pub no_nan3 : any_nan3 x y z ≡ false
  no_nan3 = ap₂ ◌||◌ (ap₂ ◌||◌ (fair_number i.one) i.two.number) i.three.number

  pub none_below2 : lt (minimum x y) zero_above ≡ false
  none_below2 = least x y (fair_not_below i.one) i.two.not_below

  pub none_below3 : below3 x y z ≡ false
  none_below3 = least (minimum x y) z none_below2 i.three.not_below

  pub no_zeros2 : eq x zero_above && eq y zero_above ≡ false
  no_zeros2 = go (eq x zero_above) (eq y zero_above) i.two.not_zero
    where
      go : (a b : Bool) → b ≡ false → a && b ≡ false
      go true b h = h
      go false b h = refl

  pub no_zeros3 : zeros_of3 x y z ≡ false
  no_zeros3 = go (eq x zero_above) (eq y zero_above) (eq z zero_above) i.two.not_zero i.three.not_zero
    where
      go : (a b c : Bool) → b ≡ false → c ≡ false → (a && b) || ((a || b) && c) ≡ false
      go true b c p q = rw p q
      go false b c p q = rw p

  pub none_infinite3 : any_infinite3 x y z ≡ false
  none_infinite3 = ap₂ ◌||◌ (ap₂ ◌||◌ (fair_bounded i.one) i.two.bounded) i.three.bounded

  scale3 : Moderate (scale_of3 x y z)
  scale3 = rw (i.two.size, i.three.size) (larger (fair_larger i.one i.two) i.three)

  pub not_rescaled3 : rescales3 x y z (scale_of3 x y z) ≡ false
  not_rescaled3 = ap (λ (b : Bool). b && survive3 x y z (scale_of3 x y z)) (within scale3)

  pub unscaled3 : {A : Type 0} (back : A → Float → A) (steps : Float → Float → Float → A)
      → rescaling3 back steps x y z ≡ steps x y z
  unfolding rescaling3
  unscaled3 back steps = rw not_rescaled3

  module _ {p : Float} (P : Moderate p) where
    pub no_nan4 : any_nan4 x y z p ≡ false
    no_nan4 = ap₂ ◌||◌ no_nan3 P.number

    pub none_infinite4 : any_infinite4 x y z p ≡ false
    none_infinite4 = ap₂ ◌||◌ none_infinite3 (ap (λ (v : Float). eq v infinity) P.size ∙ P.bounded)

    scale4 : Moderate (scale_of4 x y z p)
    scale4 = rw P.size (larger scale3 P)

    pub not_rescaled4 : rescales4 x y z p (scale_of4 x y z p) ≡ false
    not_rescaled4 = ap (λ (b : Bool). b && survive4 x y z p (scale_of4 x y z p)) (within scale4)
