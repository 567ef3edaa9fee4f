-- Comparisons of two floats of one weight, and a test for zero, say the same in both runs. A float whose weight is nothing is the
-- same float in both.
use Rattle.std.specs.Prelude.{◌≡◌, refl, ℕ, ◌*◌, ◌^◌, Bool, true, false, not, pos, T, Float}
use Rattle.std.proofs.Common.{sym, ap, ◌∙◌, subst, inl, inr, zero-mul, T_not, pow_pos}
use Rattle.std.proofs.Math.Path.{ap₂}
use Rattle.std.proofs.Math.Nat.{eq_of_mul-eq-mul_right}
use Rattle.std.proofs.Math.Bool.{◌||◌}
use Rattle.std.specs.Float.{fin, Format}
use Rattle.std.specs.Float.Ieee.{low, eq, le, level, fits, of_bits}
use Rattle.binary64.specs.Operators.{bits}
use Rattle.scaling.specs.Cross.{level_cross}
use Rattle.scaling.specs.Units.{Is, unique, eq_units}
use Rattle.scaling.specs.Kind.{Kind, In, level?}
use Rattle.scaling.specs.Two.{Two}
use Rattle.scaling.proofs.Two.{same_weight, lt_two}
use Rattle.scaling.specs.Tests.{zero}

plain_zero : zero ≡ fin false 0 (pos 0)
unfolding of_bits
plain_zero = refl

module _ {f : Format} {k : ℕ} {A B : Kind} {x y x' y' : Float} (a : Two f k A x y) (b : Two f k B x' y')
    (w : T (level? A B)) where
  pub eq_two : eq x x' ≡ eq y y'
  eq_two =
      eq_units a.first b.first
      ∙ sym (level_cross (2 ^ (k * A.d)) (2 ^ (k * A.u)) a.n b.n a.m b.m (pow_pos (k * A.d)) (pow_pos (k * A.u))
      a.tie
      (same_weight a b w) a.s b.s)
      ∙ sym (eq_units a.second b.second)

  pub le_two : le x x' ≡ le y y'
  unfolding le
  le_two = ap₂ ◌||◌ (lt_two a b w) eq_two

pub zero_is : (f : Format) → Is f zero false 0
unfolding fits
zero_is f = subst (λ x. Is f x false 0) (sym plain_zero) (record { fit = tt; val = (refl, zero-mul (2 ^ low f)) })

module _ {f : Format} {k : ℕ} {A : Kind} {x y : Float} (a : Two f k A x y) where
  -- zero has every weight
  pub zero_two : eq x zero ≡ eq y zero
  zero_two =
      eq_units a.first (zero_is f)
      ∙ sym (level_cross (2 ^ (k * A.d)) (2 ^ (k * A.u)) a.n 0 a.m 0 (pow_pos (k * A.d)) (pow_pos (k * A.u)) a.tie
      (zero-mul (2 ^ (k * A.d)) ∙ sym (zero-mul (2 ^ (k * A.u)))) a.s false)
      ∙ sym (eq_units a.second (zero_is f))

  pub no_units : T (not (eq x zero)) → (a.m ≡ 0 → ⊥) × (a.n ≡ 0 → ⊥)
  no_units h = (
    λ e. T_not (eq x zero) h (is_zero e (eq_units a.first (zero_is f))),
    λ e. T_not (eq x zero) h
        (is_zero e (zero_two ∙ eq_units a.second (zero_is f))),
  )
    where
      is_zero : {n : ℕ} {t : Bool} → n ≡ 0 → t ≡ level a.s n false 0 → T t
      is_zero {n} {t} e q = subst T (sym (q ∙ ap (λ z. level a.s z false 0) e ∙ both a.s)) tt
        where
          both : (s : Bool) → level s 0 false 0 ≡ true
          both true = refl
          both false = refl

  -- what is not zero is of a kind without zero
  abbrev pub solid_k : Kind
  solid_k = record { any = A.any; zer = false; lo = A.lo; hi = A.hi; g = A.g; u = A.u; d = A.d }

  unfoldable pub solid_two : T (not (eq x zero)) → Two f k solid_k x y
  solid_two h = record {
    s = a.s;
    m = a.m;
    n = a.n;
    first = a.first;
    second = a.second;
    in_first = off (no_units h).0 a.in_first;
    in_second = off (no_units h).1 a.in_second;
    grain = a.grain;
    grain_second = a.grain_second;
    tie = a.tie;
  }
    where
      off : {n : ℕ} → (n ≡ 0 → ⊥) → In A a.s n → In solid_k a.s n
      off z i = record { sign = i.sign; from = elim i.from [ inl p ↦ absurd (z p.1) | inr l ↦ inr l ]; to = i.to }

  abbrev pub plus_k : Kind
  plus_k = record { any = false; zer = A.zer; lo = A.lo; hi = A.hi; g = A.g; u = A.u; d = A.d }

  pub plus_sign_two : a.s ≡ false → Two f k plus_k x y
  plus_sign_two e = record {
    s = a.s;
    m = a.m;
    n = a.n;
    first = a.first;
    second = a.second;
    in_first = record { sign = λ t. e; from = a.in_first.from; to = a.in_first.to };
    in_second = record { sign = λ t. e; from = a.in_second.from; to = a.in_second.to };
    grain = a.grain;
    grain_second = a.grain_second;
    tie = a.tie;
  }

  -- where the weight is nothing
  pub same_float : A.u ≡ A.d → x ≡ y
  same_float e =
      unique a.first (subst (Is f y a.s)
      (eq_of_mul-eq-mul_right (2 ^ (k * A.d)) (pow_pos (k * A.d)) a.n a.m (a.tie ∙ ap (λ z. a.m * 2 ^ (k * z)) e))
      a.second)
