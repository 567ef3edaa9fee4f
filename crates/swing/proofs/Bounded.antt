-- For arguments in range RF does not refuse, so that the only numbers are 11 and 12, and the period is a finite f64 above zero:
-- from 2 ^ -11 to 2 ^ 19 seconds (the true bounds are nearer, and nothing asks for them). Assumes nothing.
use Rattle.std.specs.Prelude.{ℕ, ◌-◌, ◌*◌, ◌^◌, ◌≤◌, ◌<◌, ◌≡◌, Bool, true, false, cond, [], Float}
use Rattle.std.proofs.Math.Path.{refl}
use Rattle.std.proofs.Common.{sym, ◌∙◌, subst, lt_irrefl, arith, lt-ltb, ne_eqb, lit<, Ok, Err}
use Rattle.std.proofs.Math.Nat.{lt_of_le_of_lt}
use Rattle.std.specs.Float.Ieee.{of_bits, is_nan, lt, eq}
use Rattle.refusals.specs.declared.Refusal.TheVariants.{Height, OutOfRange}
use Rattle.rounding.specs.Cut.{value}
use Rattle.binary64.specs.Leaves.{absolute, maximum, minimum}
use Rattle.binary64.specs.Operators.{◌⊗◌, bits}
use Rattle.carlson.specs.Constants.{zero as +0, one}
use Rattle.carlson_arguments.specs.Checks.{below3}
use Rattle.carlson_arguments.specs.Rescaling.{scale_of3, beyond_limits, rescaling3}
use Rattle.carlson.specs.Answer.{handed_at, settled}
use Rattle.carlson.specs.Only.{Only, Finite, refused}
use Rattle.carlson.specs.Only as only
use Rattle.carlson.specs.declared.answer.Found.{Found}
use Rattle.carlson.specs.Answer.{Answer}
use Rattle.elliprf.specs.Means.{rf_agm_of}
use Rattle.elliprf.specs.Rf.{rf_general, rf_steps, rf_unchecked, rf}
use Rattle.swing.specs.Period.{within, ratio, four_roots, times, swung, period_of, swing_numbers}
use Rattle.swing.specs.Ranges.{From1}
use Rattle.swing.proofs.Ranges.{in_within}
use Rattle.between.specs.Between.{Between}
use Rattle.between.proofs.Between.{has_value, whole_units_of, units_high, product_between}
use Rattle.swing.proofs.Compared.{lt_is, eq_is, one_units, not_nan, own_size, is_finite, not_infinite, above_zero, not_below_zero, not_zero, zero_not}
use Rattle.swing.specs.Ratios.{power, below_one}
use Rattle.swing.proofs.Ratios.{argument, four_roots_lem}
use Rattle.swing.proofs.Mean.{mean}
use Rattle.swing.specs.Bounded.{Bounded, no_height, no_length, value_in}

-- ---- RF(0, y, 1) goes by no check, is not rescaled and takes the mean of 1 and y
-- what the tests say of 0 and 1
no_nan_zero : is_nan +0 ≡ false
no_nan_zero = unfold is_nan of_bits in refl

no_nan_one : is_nan one ≡ false
no_nan_one = unfold is_nan of_bits in refl

zero_is_zero : eq +0 +0 ≡ true
zero_is_zero = unfold eq of_bits in refl

zero_is_not_one : eq +0 one ≡ false
zero_is_not_one = unfold eq of_bits in refl

one_is_not_zero : eq one +0 ≡ false
one_is_not_zero = unfold eq of_bits in refl

zero_finite : eq +0 (bits 0x7FF0_0000_0000_0000) ≡ false
zero_finite = unfold eq of_bits in refl

one_finite : eq one (bits 0x7FF0_0000_0000_0000) ≡ false
one_finite = unfold eq of_bits in refl

one_not_below : lt one +0 ≡ false
one_not_below = unfold lt of_bits in refl

zero_not_below : lt +0 +0 ≡ false
zero_not_below = unfold lt of_bits in refl

size_of_zero : absolute +0 ≡ +0
size_of_zero = unfold absolute of_bits in refl

size_of_one : absolute one ≡ one
size_of_one = unfold absolute of_bits in refl

one_not_beyond : beyond_limits one ≡ false
one_not_beyond = unfold lt of_bits in refl

module _ {y : Float} (Y : Between (power 998) below_one y) where
  under_one : whole_units_of Y < 2 ^ 1074
  unfolding value
  under_one = lt_of_le_of_lt (units_high Y) (lit< tt)

  below_1 : lt y one ≡ true
  below_1 = lt_is y one (whole_units_of Y) (2 ^ 1074) (has_value Y) one_units ∙ lt-ltb (whole_units_of Y) (2 ^ 1074) under_one

  not_1 : eq y one ≡ false
  not_1 =
      eq_is y one (whole_units_of Y) (2 ^ 1074) (has_value Y) one_units
      ∙ ne_eqb (whole_units_of Y) (2 ^ 1074) (λ e. lt_irrefl (2 ^ 1074) (subst (λ (z : ℕ). z < 2 ^ 1074) e under_one))

  steps_are : rf_steps +0 y one ≡ rf_agm_of one y
  unfolding rf_steps rf_general
  steps_are = rw (zero_not Y, not_1, zero_is_not_one, zero_is_zero)

  checked_below : below3 +0 y one ≡ false
  unfolding minimum
  checked_below = rw (no_nan_zero, not_below_zero Y, no_nan_zero, one_not_below) zero_not_below

  scale_is : scale_of3 +0 y one ≡ one
  unfolding maximum
  scale_is = rw (size_of_zero, own_size Y, size_of_one, no_nan_zero, above_zero Y, not_nan Y, below_1)

  unchecked_is : rf_unchecked +0 y one ≡ rf_agm_of one y
  unfolding rf_unchecked rescaling3
  unchecked_is = rw (scale_is, one_not_beyond, steps_are)

  pub rf_is : rf +0 y one ≡ Ok (rf_agm_of one y)
  unfolding rf settled
  rf_is =
      rw (
        no_nan_zero,
        not_nan Y,
        no_nan_one,
        checked_below,
        zero_is_zero,
        not_zero Y,
        one_is_not_zero,
        zero_finite,
        not_infinite Y,
        one_finite,
        unchecked_is,
        is_finite (mean y Y),
      )

-- ---- the period
record InRange (l h g : ℕ) : Type 0 where
  length_in : From1 l 10000000
  gravity_in : From1 g 20000000
  height_in : From1 h (2 * l - 1)

-- what a swing of arguments in range takes, with RF's road and way
swing_of : ℕ → ℕ → ℕ → Found
swing_of l h g =
    let f = rf_agm_of one (ratio (2 * l - h) (2 * l)) in
    handed_at f (four_roots l g ⊗ f.value)

module _ (l h g : ℕ) (R : InRange l h g) where
  argument_in : Between (power 998) below_one (ratio (2 * l - h) (2 * l))
  argument_in =
      argument (2 * l - h) (2 * l) (from_one l h R.length_in R.height_in) (less l h R.length_in R.height_in)
      (most l R.length_in)
    where
      from_one : (l h : ℕ) → From1 l 10000000 → From1 h (2 * l - 1) → 1 ≤ 2 * l - h
      from_one l h L H = omega arith

      less : (l h : ℕ) → From1 l 10000000 → From1 h (2 * l - 1) → 2 * l - h < 2 * l
      less l h L H = omega arith

      most : (l : ℕ) → From1 l 10000000 → 2 * l ≤ 20000000
      most l L = omega arith

  swung_is : swung l h g ≡ Ok (swing_of l h g)
  unfolding swung times swing_of
  swung_is = rw (rf_is argument_in)

  swing_between : Between (power 1012) (power 1042) (swing_of l h g).value
  unfolding value swing_of handed_at
  swing_between =
      product_between (four_roots_lem l g R.length_in R.gravity_in) (mean (ratio (2 * l - h) (2 * l)) argument_in) (power 1012)
      (power 1042) tt tt tt

pub period_bounded : (l h g : ℕ) → Bounded (period_of l h g)
unfolding period_of
period_bounded l h g = go (within l 10000000) (within g 20000000) (within h (2 * l - 1)) refl refl refl
  where
    go : (s t u : Bool) → within l 10000000 ≡ s → within g 20000000 ≡ t → within h (2 * l - 1) ≡ u
        → Bounded (cond s (cond t (cond u (swung l h g) (Err Height)) (Err OutOfRange))
        (Err OutOfRange))
    go false t u p q r = no_length
    go true false u p q r = no_length
    go true true false p q r = no_height
    go true true true p q r =
        let R : InRange l h g = record {
          length_in = in_within l 10000000 p;
          gravity_in = in_within g 20000000 q;
          height_in = in_within h (2 * l - 1) r;
        } in
        subst Bounded (sym (swung_is l h g R)) (value_in (swing_between l h g R))

bounded_only : (a : Answer) → Bounded a → Only Finite swing_numbers a
bounded_only (Ok f) (value_in v) = only.value (is_finite v)
bounded_only (Err n) no_length = refused tt
bounded_only (Err n) no_height = refused tt

pub period_only : (l h g : ℕ) → Only Finite swing_numbers (period_of l h g)
period_only l h g = bounded_only (period_of l h g) (period_bounded l h g)

pub period_value : (l h g : ℕ) (f : Found) → period_of l h g ≡ Ok f → Between (power 1012) (power 1042) f.value
period_value l h g f e = taken (period_of l h g) e (period_bounded l h g)
  where
    taken : (a : Answer) → a ≡ Ok f → Bounded a → Between (power 1012) (power 1042) f.value
    taken (Ok d) e (value_in v) = let s : d ≡ f = cc in subst (λ (c : Found). Between (power 1012) (power 1042) c.value) s v
    taken (Err n) e b = let z : ◌≡◌ {A = ℕ} 0 1 = cc in absurd (omega arith)
