-- What the tests of f64s say where their units of 2 ^ -1074 are known. Assumes nothing.
use Prim.Native.Nat.{ℕ, zero-le, ◌*◌, ◌^◌, ◌<◌, compare}
use Rattle.std.specs.Prelude.{◌≡◌, refl, Bool, true, false, ◌&&◌, [], ◌∷◌, eqb, ltb, Float}
use Rattle.std.proofs.Common.{sym, ap, ap₂, ◌∙◌, subst, true≢false, lt_irrefl, le_of_eq, lt_of_le_of_lt, lt_of_lt_of_le, zero-lt-suc, mul-pos, mul-lt-mul_of_pos_right, lt_of_mul-lt-mul_right, lt-ltb, le-ltb, ne_eqb, lit<, pow_pos}
use Rattle.std.proofs.Math.Dec.{compare_is_eq}
use Rattle.std.specs.Float.{nan, inf, fin}
use Rattle.std.specs.Float.Ieee.{up, down, is_nan, lt, eq}
use Rattle.std.specs.Float.Ieee.Fits.{down_pos}
use Rattle.std.specs.Float.Ieee.Exact.{HasValue}
use Rattle.std.specs.Float.Ieee.Scale.{finite}
use Rattle.algebra.specs.Ring.{◌:*◌, ◌≈◌, ◌⊩◌, ◌times◌≼◌}
use Rattle.algebra.proofs.Ring.{ring}
use Rattle.algebra.specs.Order.{same_ltb, scaled_compare}
use Rattle.rounding.specs.Cut.{value}
use Rattle.rounding.proofs.Value.{value_is, infinity_is}
use Rattle.binary64.specs.Leaves.{absolute}
use Rattle.binary64.specs.Operators.{bits}
use Rattle.carlson.specs.Constants.{zero as +0, one}
use Rattle.swing.specs.Period.{times}
use Rattle.between.specs.Between.{Between}
use Rattle.between.proofs.Between.{form, has_value, whole_units_of, units_pos}

-- ---- tests on f64s whose units are known
module _ (a b c d u w D : ℕ) (P : 0 < D) (C : 0 < c * d) (e : a * D ≡ u * c) (f : b * D ≡ w * d) where
  over_left : a * d * D ≡ u * (c * d)
  over_left = ring 5 (λ a c d u D. (d times a :* D ≼ u :* c) ∷ [] ⊩ a :* d :* D ≈ u :* (c :* d)) tt a c d u D e

  over_right : b * c * D ≡ w * (c * d)
  over_right = ring 5 (λ b c d w D. (c times b :* D ≼ w :* d) ∷ [] ⊩ b :* c :* D ≈ w :* (c :* d)) tt b c d w D f

  cross_lt : ltb (a * d) (b * c) ≡ ltb u w
  cross_lt =
      same_ltb (a * d) (b * c) u w
      (λ h. lt_of_mul-lt-mul_right (c * d)
      (lt_of_le_of_lt (le_of_eq (sym over_left)) (lt_of_lt_of_le (mul-lt-mul_of_pos_right h P) (le_of_eq over_right))))
      (λ h. lt_of_mul-lt-mul_right D (lt_of_le_of_lt (le_of_eq over_left)
      (lt_of_lt_of_le (mul-lt-mul_of_pos_right h C) (le_of_eq (sym over_right)))))

  cross_eq : eqb (a * d) (b * c) ≡ eqb u w
  cross_eq = ap compare_is_eq (sym (scaled_compare (a * d) (b * c) D P) ∙ ap₂ compare over_left over_right ∙ scaled_compare u w (c * d) C)

pub lt_is : (x y : Float) (u w : ℕ) → HasValue x false u (2 ^ 1074) → HasValue y false w (2 ^ 1074) → lt x y ≡ ltb u w
unfolding lt
lt_is nan y u w X Y = absurd X
lt_is (inf s) y u w X Y = absurd X
lt_is (fin true m e) y u w X Y = absurd (true≢false X.0)
lt_is (fin false m e) nan u w X Y = absurd Y
lt_is (fin false m e) (inf t) u w X Y = absurd Y
lt_is (fin false m e) (fin true n d) u w X Y = absurd (true≢false Y.0)
lt_is (fin false m e) (fin false n d) u w X Y =
    cross_lt (m * up e) (n * up d) (down e) (down d) u w (2 ^ 1074) (pow_pos 1074) (mul-pos (down_pos e) (down_pos d)) X.1
    Y.1

pub eq_is : (x y : Float) (u w : ℕ) → HasValue x false u (2 ^ 1074) → HasValue y false w (2 ^ 1074) → eq x y ≡ eqb u w
unfolding eq
eq_is nan y u w X Y = absurd X
eq_is (inf s) y u w X Y = absurd X
eq_is (fin true m e) y u w X Y = absurd (true≢false X.0)
eq_is (fin false m e) nan u w X Y = absurd Y
eq_is (fin false m e) (inf t) u w X Y = absurd Y
eq_is (fin false m e) (fin true n d) u w X Y = absurd (true≢false Y.0)
eq_is (fin false m e) (fin false n d) u w X Y =
    same_sign (eqb (m * up e * down d) (n * up d * down e))
    ∙ cross_eq (m * up e) (n * up d) (down e) (down d) u w (2 ^ 1074) (pow_pos 1074) (mul-pos (down_pos e) (down_pos d)) X.1
    Y.1
  where
    same_sign : (t : Bool) → (t && true) ≡ t
    same_sign true = refl
    same_sign false = refl

zero_units : HasValue +0 false 0 (2 ^ 1074)
zero_units = unfold value in value_is 0 (zero-lt-suc _)

pub one_units : HasValue one false (2 ^ 1074) (2 ^ 1074)
one_units = unfold value in value_is (1023 * 2 ^ 52) (lit< tt)

-- ---- an f64 between two patterns is a number above zero
module _ {lo hi : ℕ} {x : Float} (X : Between lo hi x) where
  pub not_nan : is_nan x ≡ false
  unfolding is_nan
  not_nan = rw (form X).is

  pub own_size : absolute x ≡ x
  unfolding absolute
  own_size = rw (form X).is

  pub is_finite : finite x ≡ true
  is_finite = rw (form X).is

  pub not_infinite : eq x (bits 0x7FF0_0000_0000_0000) ≡ false
  unfolding eq
  not_infinite = rw ((form X).is, infinity_is)

  pub above_zero : lt +0 x ≡ true
  above_zero = lt_is +0 x 0 (whole_units_of X) zero_units (has_value X) ∙ lt-ltb 0 (whole_units_of X) (units_pos X)

  pub not_below_zero : lt x +0 ≡ false
  not_below_zero = lt_is x +0 (whole_units_of X) 0 (has_value X) zero_units ∙ le-ltb (whole_units_of X) 0 zero-le

  pub not_zero : eq x +0 ≡ false
  not_zero = eq_is x +0 (whole_units_of X) 0 (has_value X) zero_units
      ∙ ne_eqb (whole_units_of X) 0 (λ e. lt_irrefl 0 (subst (λ (z : ℕ). 0 < z) e (units_pos X)))

  pub zero_not : eq +0 x ≡ false
  zero_not =
      eq_is +0 x 0 (whole_units_of X) zero_units (has_value X)
      ∙ ne_eqb 0 (whole_units_of X) (λ e. lt_irrefl 0 (subst (λ (z : ℕ). 0 < z) (sym e) (units_pos X)))
