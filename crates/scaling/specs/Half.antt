-- Rounding changes a fraction in the normal range, and every whole number, by less than a factor of two, either way. Crude, and
-- enough wherever only a bound is wanted.
use Rattle.std.specs.Prelude.{◌≡◌, ℕ, suc, ◌-◌, ◌*◌, ◌^◌, ◌≤◌, ◌<◌, [], ◌∷◌}
use Rattle.std.proofs.Common.{sym, ap, ◌∙◌, inl, inr, le_trans, le_of_eq, mul-one, zero-lt-suc, lt_of_lt_of_le, arith, pow_pos, pow_mono}
use Rattle.std.proofs.Math.Nat.{le_of_mul-le-mul_left}
use Rattle.std.specs.Float.{Format}
use Rattle.std.specs.Float.Ieee.{prec}
use Rattle.algebra.specs.Ring.{con, nxt, ◌:*◌, ◌≈◌, ◌⊩◌, ◌times◌≼◌, Order}
use Rattle.algebra.proofs.Ring.{by_below}
use Rattle.scaling.specs.Near.{near, near_exact, either}
use Rattle.scaling.specs.Error.{near_not_less, near_not_more}

twice : (T a b : ℕ) → 0 < T → T * a ≤ suc T * b → a ≤ 2 * b
twice T a b h l = le_of_mul-le-mul_left (le_trans l (double.law T b h)) h
  where
    double : Order 2 (λ t b. (b times con 1 ≼ t) ∷ [] ⊩ nxt t :* b ≈ t :* (con 2 :* b))
    double = by_below tt

module _ (f : Format) (n d : ℕ) (D : 0 < d) (normal : 2 ^ (prec f - 1) * d ≤ n) where
  pub half_less : n ≤ 2 * (near f n d * d)
  half_less = twice (2 ^ (prec f - 1)) n (near f n d * d) (pow_pos (prec f - 1)) (near_not_less f n d D normal)

  pub half_more : near f n d * d ≤ 2 * n
  half_more = twice (2 ^ (prec f - 1)) (near f n d * d) n (pow_pos (prec f - 1)) (near_not_more f n d D normal)

-- a whole number (the other way is `near_half`)
pub whole_more : (f : Format) (n : ℕ) → near f n 1 ≤ 2 * n
whole_more f n = elim (either (2 ^ (prec f - 1)) n) [
  | inl h ↦ le_trans (le_of_eq (sym (mul-one (near f n 1))))
      (half_more f n 1 (zero-lt-suc 0) (le_trans (le_of_eq (mul-one (2 ^ (prec f - 1)))) h))
  | inr h ↦ le_trans (le_of_eq (exact n (lt_of_lt_of_le h (pow_mono (let r : prec f - 1 ≤ prec f = omega arith in r)))))
      (let r : n ≤ 2 * n = omega arith in r)
]
  where
    exact : (n : ℕ) → n < 2 ^ prec f → near f n 1 ≡ n
    exact n h =
        let one : n * 2 ^ 0 * 1 ≡ n = omega arith in
        ap (λ (z : ℕ). near f z 1) (sym one) ∙ near_exact f n 0 1 (zero-lt-suc 0) h ∙ mul-one n
