-- A float's sign, by the test against zero: it says the same in both runs, and what it says of the sign becomes part of the kind.
-- A float that is finite is no NaN and no infinity either, which an entry's first checks ask.
use Rattle.std.specs.Prelude.{◌≡◌, refl, ℕ, ◌+◌, ◌*◌, ◌^◌, ◌<◌, Bool, true, false, not, T, ltb, Float}
use Rattle.std.proofs.Common.{sym, ap, ◌∙◌, subst, zero-mul, arith, T_not, ltb→lt, lt→ltb, pow_pos}
use Rattle.std.specs.Float.{nan, inf, fin, Format}
use Rattle.std.specs.Float.Ieee.{lt, eq, neg, below, of_bits}
use Rattle.binary64.specs.Operators.{bits}
use Rattle.scaling.specs.Cross.{below_cross}
use Rattle.scaling.specs.Units.{Is, lt_units}
use Rattle.scaling.specs.Kind.{Kind}
use Rattle.scaling.proofs.One.{neg_two}
use Rattle.scaling.specs.Tests.{zero}
use Rattle.scaling.proofs.Tests.{zero_is, no_units, solid_two, plus_sign_two}
use Rattle.scaling.specs.Two.{Two}
use Rattle.scaling.specs.Signs.{above_k}

-- ---- what is finite
pub bounded : {f : Format} {x : Float} {s : Bool} {n : ℕ} → Is f x s n → eq x (bits 0x7FF0_0000_0000_0000) ≡ false
unfolding eq of_bits
bounded {x = nan} a = absurd a.val
bounded {x = inf t} a = absurd a.val
bounded {x = fin t m e} a = refl

-- ---- below zero
below_zero_number : (s : Bool) (m : ℕ) → T (below s m false 0) → s ≡ true
below_zero_number true m t = refl
below_zero_number false m t = absurd (let h = ltb→lt m 0 t in let r : ⊥ = omega arith in r)

above_zero : (s : Bool) (m : ℕ) → T (not (below s m false 0)) → (m ≡ 0 → ⊥) → s ≡ false
above_zero false m t h = refl
above_zero true m t h = absurd (T_not (ltb 0 (m + 0)) t (lt→ltb 0 (m + 0) (let r : 0 < m + 0 = some m h in r)))
  where
    some : (m : ℕ) → (m ≡ 0 → ⊥) → 0 < m + 0
    some m h = omega arith

module _ {f : Format} {k : ℕ} {A : Kind} {x y : Float} (a : Two f k A x y) where
  pub lt_zero_two : lt x zero ≡ lt y zero
  lt_zero_two =
      lt_units a.first (zero_is f)
      ∙ sym (below_cross (2 ^ (k * A.d)) (2 ^ (k * A.u)) a.n 0 a.m 0 (pow_pos (k * A.d)) (pow_pos (k * A.u)) a.tie
      (zero-mul (2 ^ (k * A.d)) ∙ sym (zero-mul (2 ^ (k * A.u)))) a.s false)
      ∙ sym (lt_units a.second (zero_is f))

  pub minus : T (lt x zero) → a.s ≡ true
  minus t = below_zero_number a.s a.m (subst T (lt_units a.first (zero_is f)) t)

  pub plus : T (not (lt x zero)) → T (not (eq x zero)) → a.s ≡ false
  plus t e = above_zero a.s a.m (subst (λ b. T (not b)) (lt_units a.first (zero_is f)) t) (no_units a e).0

pub above_two : {f : Format} {k : ℕ} {A : Kind} {x y : Float} → Two f k A x y → T (not (lt x zero)) → T (not (eq x zero))
    → Two f k (above_k A) x y
unfolding solid_two
above_two a t e = plus_sign_two (solid_two a e) (plus a t e)

-- below zero, with the sign turned
pub opposite_two : {f : Format} {k : ℕ} {A : Kind} {x y : Float} → Two f k A x y → T (lt x zero) → T (not (eq x zero))
    → Two f k (above_k A) (neg x) (neg y)
unfolding neg_two solid_two
opposite_two a t e = plus_sign_two (neg_two (solid_two a e)) (ap not (minus a t))
