-- A quotient of two f64s, rounded, is not above 1/2 just where the exact one is not: past 1/2, it is past the middle between
-- 1/2 and the next f64. All numbers are units. Assumes nothing.
use Rattle.std.specs.Prelude.{◌≡◌, [], ◌∷◌, ℕ, ◌+◌, ◌-◌, ◌*◌, ◌^◌, ◌≤◌, ◌<◌}
use Rattle.std.proofs.Common.{sym, ap, ◌∙◌, subst₂, inl, inr, le_refl, le_trans, le_of_eq, le_of_lt, lt_of_lt_of_le, not-le_of_lt, mul_assoc, zero-lt-suc, lt_of_mul-lt-mul_right, arith, lit<, pow-add, pow_mono}
use Rattle.std.specs.Float.{binary64}
use Rattle.std.specs.Float.Ieee.{low, size}
use Rattle.std.specs.Float.Ieee.Digits.{size-lt}
use Rattle.algebra.specs.Ring.{con, nxt, ◌:*◌, ◌≈◌, ◌⊩◌, ◌times◌≼◌}
use Rattle.algebra.proofs.Ring.{below}
use Rattle.scaling.specs.Near.{near, near_mono, near_exact, either}
use Rattle.scaling.specs.Kind.{last}
use Rattle.scaling.specs.Last.{Digits, Multiple}
use Rattle.scaling.proofs.Last.{multiple}

doubled : {n : ℕ} → Digits binary64 n → Digits binary64 (n * 2)
doubled {n} d = record {
  M = d.M;
  j = d.j + 1;
  is =
      ap (λ (z : ℕ). z * 2) d.is ∙ mul_assoc d.M (2 ^ d.j) 2 ∙ ap (λ (z : ℕ). d.M * z) (sym (pow-add 2 d.j 1));
  small = d.small;
}

-- X and 2 Y are multiples of X's last place, which is more than a part in 2 ^ 53 of X
apart : (X Y : ℕ) → Digits binary64 X → Digits binary64 Y → X < Y * 2 → 2 ^ 53 * X ≤ Y * 2 * (2 ^ 53 - 1)
apart X Y D E h =
    let g : ℕ = last binary64 X in
    let M : Multiple g X = multiple X D (le_refl X) in
    let N : Multiple g (Y * 2) = multiple X (doubled E) (le_of_lt h) in
    let few : M.c < 2 ^ 53 = lt_of_mul-lt-mul_right (2 ^ g)
    (lt_of_lt_of_le (subst_lt M.is (size-lt X))
    (le_trans (pow_mono (let r : size X ≤ 53 + g = omega arith in r)) (le_of_eq (pow-add 2 53 g)))) in
    let more : M.c < N.c = lt_of_mul-lt-mul_right (2 ^ g) (subst₂ ◌<◌ M.is N.is h) in
    subst₂ (λ (x y : ℕ). 2 ^ 53 * x ≤ y * (2 ^ 53 - 1)) (sym M.is) (sym N.is) (step M.c N.c (2 ^ g) few more)
  where
    step : (c d q : ℕ) → c < 2 ^ 53 → c < d → 2 ^ 53 * (c * q) ≤ d * q * (2 ^ 53 - 1)
    step = below 3 (λ c d q. (q times nxt c ≼ con (2 ^ 53)) ∷ (q :* con (2 ^ 53 - 1) times nxt c ≼ d) ∷ []
        ⊩ con (2 ^ 53) :* (c :* q) ≈ d :* q :* con (2 ^ 53 - 1)) tt

    subst_lt : {a b c : ℕ} → a ≡ b → a < c → b < c
    subst_lt e l = omega arith

-- 2 ^ 53 / (2 ^ 53 - 1) of a half is rounded up
past_middle_lem : 2 ^ 1073 < near binary64 (2 ^ 1126) (2 ^ 53 - 1)
unfolding near
past_middle_lem = lit< tt

-- THE LAW
pub at_most_half : (X Y : ℕ) → Digits binary64 X → Digits binary64 Y → 0 < X → near binary64 (Y * 2 ^ low binary64) X ≤ 2 ^ 1073
    → Y * 2 ≤ X
at_most_half X Y D E pos h = elim (either (Y * 2) X) [
  | inl l ↦ l
  | inr l ↦
      let c = cross X Y (apart X Y D E l) in
      let up = near_mono binary64 (2 ^ 1126) (2 ^ 53 - 1) (Y * 2 ^ low binary64) X (lit< tt) pos c in
      absurd (not-le_of_lt past_middle_lem (le_trans up h))
]
  where
    cross : (X Y : ℕ) → 2 ^ 53 * X ≤ Y * 2 * (2 ^ 53 - 1) → 2 ^ 1126 * X ≤ Y * 2 ^ 1074 * (2 ^ 53 - 1)
    cross = below 2 (λ X Y. (con (2 ^ 1073) times con (2 ^ 53) :* X ≼ Y :* con 2 :* con (2 ^ 53 - 1)) ∷ []
        ⊩ con (2 ^ 1126) :* X ≈ Y :* con (2 ^ 1074) :* con (2 ^ 53 - 1)) tt

-- and the other way round
pub half_most : (X Y : ℕ) → 0 < X → Y * 2 ≤ X → near binary64 (Y * 2 ^ low binary64) X ≤ 2 ^ 1073
half_most X Y pos h =
    le_trans (near_mono binary64 (Y * 2 ^ low binary64) X (1 * 2 ^ 1073 * 1) 1 pos (zero-lt-suc 0) (cross X Y h))
    (le_of_eq (near_exact binary64 1 1073 1 (zero-lt-suc 0) (lit< tt)))
  where
    cross : (X Y : ℕ) → Y * 2 ≤ X → Y * 2 ^ 1074 * 1 ≤ 2 ^ 1073 * X
    cross = below 2 (λ X Y. (con (2 ^ 1073) times Y :* con 2 ≼ X) ∷ [] ⊩ Y :* con (2 ^ 1074) :* con 1 ≈ con (2 ^ 1073) :* X) tt

pub more_than_half : (X Y : ℕ) → 0 < X → 2 ^ 1073 < near binary64 (Y * 2 ^ low binary64) X → X ≤ Y * 2
more_than_half X Y pos h = elim (either X (Y * 2)) [
  | inl l ↦ l
  | inr l ↦ absurd (not-le_of_lt h (half_most X Y pos (le_of_lt l)))
]
