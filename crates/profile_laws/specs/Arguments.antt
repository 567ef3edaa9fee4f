-- What the profile makes of each argument: an f64 that is not -0 where it is a number, and none of the tests on arguments sees
-- the difference. Assumes nothing.
use Rattle.std.specs.Prelude.{◌≡◌, ◌⊎◌, Bool, true, false, not, cond, T, Float}
use Rattle.std.proofs.Math.Path.{refl}
use Rattle.std.proofs.Common.{sym, ap, ◌∙◌, subst, inl, inr, true≢false, T_not}
use Rattle.std.specs.Float.{nan, inf, fin, binary64}
use Rattle.std.specs.Float.Ieee.{fits, is_nan, lt, eq, neg, of_bits}
use Rattle.std.specs.Float.Ieee.Scale.{finite}
use Rattle.scaling.specs.Units.{Is, unique, neg_units}
use Rattle.scaling.specs.One.{sign}
use Rattle.scaling.proofs.Plain.{whole_units_of}
use Rattle.scaling.proofs.Tests.{zero_is}
use Rattle.carlson.specs.Constants.{zero}
use Rattle.units.proofs.Arguments.{no_units_of}
use Rattle.rg_order.specs.Plain.{Plain}
use Rattle.rg_order.proofs.PlainLaws.{told_apart}
use Rattle.profile_arguments.specs.Arguments.{plus_zero, sized}

-- an f64, NaN included
abbrev pub F64 : Float → Type 0
F64 x = T (fits binary64 x)

-- ---- the f64s that equal zero are two
zero_finite : (x : Float) → T (eq x zero) → T (finite x)
unfolding eq of_bits
zero_finite nan t = absurd t
zero_finite (inf s) t = absurd t
zero_finite (fin s m e) t = tt

two_zeros : (x : Float) → F64 x → T (eq x zero) → (x ≡ zero) ⊎ (x ≡ neg zero)
two_zeros x f t =
    let i = whole_units_of binary64 x f (zero_finite x t) in
    go (sign x) (subst (Is binary64 x (sign x)) (no_units_of i.1 t) i.1)
  where
    go : (s : Bool) → Is binary64 x s 0 → (x ≡ zero) ⊎ (x ≡ neg zero)
    go false i = inl (unique i (zero_is binary64))
    go true i = inr (unique i (neg_units (zero_is binary64)))

-- ---- what does not tell them apart does not see "-0 becomes +0"
pub kept : {A : Type 0} (test : Float → A) → test zero ≡ test (neg zero) → (x : Float) → F64 x → test (plus_zero x) ≡ test x
unfolding plus_zero
kept {A} test e x f = go (eq x zero) refl
  where
    at : (x ≡ zero) ⊎ (x ≡ neg zero) → test zero ≡ test x
    at (inl h) = ap test (sym h)
    at (inr h) = rw h e

    go : (b : Bool) → eq x zero ≡ b → test (cond b zero x) ≡ test x
    go true h = at (two_zeros x f (subst T (sym h) tt))
    go false h = refl

module _ (x : Float) (f : F64 x) where
  pub nan_kept : is_nan (plus_zero x) ≡ is_nan x
  unfolding is_nan neg of_bits
  nan_kept = kept is_nan refl x f

  pub below_kept : lt (plus_zero x) zero ≡ lt x zero
  unfolding lt neg of_bits
  below_kept = kept (λ v. lt v zero) refl x f

  pub zero_kept : eq (plus_zero x) zero ≡ eq x zero
  unfolding eq neg of_bits
  zero_kept = kept (λ v. eq v zero) refl x f

  pub sized_kept : sized (plus_zero x) ≡ sized x
  unfolding sized eq neg of_bits
  sized_kept = kept sized refl x f

-- ---- it is an f64, and never -0
pub plus_zero_fits : (x : Float) → F64 x → F64 (plus_zero x)
unfolding plus_zero
plus_zero_fits x f = go (eq x zero)
  where
    go : (b : Bool) → F64 (cond b zero x)
    go true = (zero_is binary64).fit
    go false = f

not_minus : (x : Float) → plus_zero x ≡ neg zero → ⊥
unfolding plus_zero eq neg of_bits
not_minus x = go (eq x zero) refl
  where
    go : (b : Bool) → eq x zero ≡ b → cond b zero x ≡ neg zero → ⊥
    go true h e = true≢false (sym (ap sign e))
    go false h e = true≢false (sym (ap (λ v. eq v zero) e) ∙ h)

pub plus_zero_plain : (x : Float) → F64 x → is_nan (plus_zero x) ≡ false → Plain (plus_zero x)
plus_zero_plain x f n = record { fit = plus_zero_fits x f; number = n; not_minus_zero = not_minus x }

-- ---- a number that is neither below zero nor zero is above it
zero_plain : Plain zero
unfolding is_nan neg of_bits
zero_plain = record { fit = (zero_is binary64).fit; number = refl; not_minus_zero = λ e. true≢false (sym (ap sign e)) }

pub some_above : (x : Float) → F64 x → is_nan x ≡ false → lt x zero ≡ false → T (not (eq x zero)) → T (lt zero x)
unfolding eq neg of_bits
some_above x f n h g = go (lt zero x) refl
  where
    not_equal : (v : Float) → T (eq v zero) → x ≡ v → ⊥
    not_equal v t e = T_not (eq x zero) g (subst (λ w. T (eq w zero)) (sym e) t)

    go : (b : Bool) → lt zero x ≡ b → T b
    go true e = tt
    go false e =
        let plain : Plain x = record { fit = f; number = n; not_minus_zero = not_equal (neg zero) tt } in
        absurd (not_equal zero tt (told_apart.apart plain zero_plain h e))
