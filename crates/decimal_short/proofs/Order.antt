-- What reads back lies in one stretch around x: of the two multiples beside x one reads back if any multiple does, and where a
-- power of ten serves all smaller ones do. Assumes nothing.
use Rattle.std.specs.Prelude.{ℕ, suc, ◌+◌, ◌-◌, ◌*◌, ◌^◌, ◌≤◌, ◌<◌, ◌≡◌, refl, Bool, true, ◌||◌, ◌⊎◌, [], ◌∷◌, eqb, Float}
use Rattle.std.proofs.Common.{sym, ap, ◌∙◌, subst, inl, inr, le_of_eq, le_of_lt, lt-suc_self, arith, eqb→eq}
use Rattle.std.proofs.Math.Bool.{false}
use Rattle.std.proofs.Math.Dec.{T}
use Rattle.std.specs.Float.Ieee.{binary64, round, to_bits}
use Rattle.std.specs.Float.Ieee.Fits.{round-fits, eq→eqb}
use Rattle.std.specs.Float.Ieee.Bits.{is_true}
use Rattle.std.specs.Float.Ieee.Scale.{round_same}
use Rattle.std.specs.Float.Ieee.Positive.{num, den, den_pos}
use Rattle.algebra.specs.Ring.{◌:*◌, ◌≈◌, ◌⊩◌, ◌times◌≼◌}
use Rattle.algebra.proofs.Ring.{ring}
use Rattle.algebra.specs.Order.{lt_or_le}
use Rattle.binary64.proofs.Meaning.{same_bits}
use Rattle.decimal.specs.Decimal.{ones, under, decimal_of}
use Rattle.decimal_short.specs.Shortest.{reads, within, told}
use Rattle.decimal_short.specs.Above.{Above, reads_exact, squeezed}
use Rattle.decimal_short.specs.Within.{over}
use Rattle.decimal_short.proofs.Within.{ten_pos, grown, scaled, within_low, within_high}

-- ---- d at the power t + k is d * 10 ^ k at t
lower_cross : (d P Q p q k : ℕ) → P * q ≡ k * (p * Q) → d * P * q ≡ d * k * p * Q
lower_cross = ring 6 (λ d P Q p q k. (d times P :* q ≼ k :* (p :* Q)) ∷ [] ⊩ d :* P :* q ≈ d :* k :* p :* Q) tt

moved : (d t k : ℕ)
    → round binary64 false (d * over (t + k)) (under (t + k)) ≡ round binary64 false (d * 10 ^ k * over t) (under t)
moved d t k = round_same binary64 false (d * over (t + k)) (under (t + k)) (d * 10 ^ k * over t) (under t)
    (ten_pos (ones - (t + k))) (ten_pos (ones - t))
    (lower_cross d (over (t + k)) (under (t + k)) (over t) (under t) (10 ^ k) (grown t k))

-- ---- one of two
either_true : (a b : Bool) → (a ≡ true) ⊎ (b ≡ true) → (a || b) ≡ true
either_true true b h = refl
either_true false true h = refl
either_true false false (inl e) = e
either_true false false (inr e) = e

true_either : (a b : Bool) → (a || b) ≡ true → (a ≡ true) ⊎ (b ≡ true)
true_either true b h = inl refl
true_either false b h = inr h

module _ (x : Float) where
  pub told_by : (t : ℕ) → (reads x (within x t) t ≡ true) ⊎ (reads x (suc (within x t)) t ≡ true) → told x t ≡ true
  unfolding told
  told_by t h = either_true (reads x (within x t) t) (reads x (suc (within x t)) t) h

  pub told_either : (t : ℕ) → told x t ≡ true → (reads x (within x t) t ≡ true) ⊎ (reads x (suc (within x t)) t ≡ true)
  unfolding told
  told_either t h = true_either (reads x (within x t) t) (reads x (suc (within x t)) t) h

-- ---- a text that reads back as x is one that rounds to x
module _ {x : Float} (A : Above x) where
  pub reads_is : (d t : ℕ) → reads x d t ≡ true → round binary64 false (d * over t) (under t) ≡ x
  unfolding reads decimal_of
  reads_is d t h =
      let r = round binary64 false (d * over t) (under t) in
      same_bits r x (round-fits binary64 false (d * over t) (under t)) A.ok
      (eqb→eq (to_bits binary64 r) (to_bits binary64 x) (subst T (sym h) tt))

  pub is_reads : (d t : ℕ) → round binary64 false (d * over t) (under t) ≡ x → reads x d t ≡ true
  unfolding reads decimal_of
  is_reads d t e =
      let r = round binary64 false (d * over t) (under t) in
      is_true (eqb (to_bits binary64 r) (to_bits binary64 x)) (eq→eqb (ap (λ (y : Float). to_bits binary64 y) e))

  pub reads_lower : (d t k : ℕ) → reads x d (t + k) ≡ true → reads x (d * 10 ^ k) t ≡ true
  reads_lower d t k h = is_reads (d * 10 ^ k) t (sym (moved d t k) ∙ reads_is d (t + k) h)

  pub reads_higher : (d t k : ℕ) → reads x (d * 10 ^ k) t ≡ true → reads x d (t + k) ≡ true
  reads_higher d t k h = is_reads d (t + k) (moved d t k ∙ reads_is (d * 10 ^ k) t h)

  -- from a multiple that reads back to the one beside x on its side
  pub lower_reads : (d t : ℕ) → d ≤ within x t → reads x d t ≡ true → reads x (within x t) t ≡ true
  lower_reads d t l h =
      let w = within x t in
      let Q = ten_pos (ones - t) in
      is_reads w t (squeezed A (d * over t) (under t) (w * over t) (under t) (num x) (den x) Q Q (den_pos x)
      (reads_is d t h) (reads_exact A) (scaled d w (over t) (under t) l) (within_low x w t (le_of_eq refl)))

  pub upper_reads : (d t : ℕ) → within x t < d → reads x d t ≡ true → reads x (suc (within x t)) t ≡ true
  upper_reads d t l h =
      let w = within x t in
      let Q = ten_pos (ones - t) in
      is_reads (suc w) t (squeezed A (num x) (den x) (suc w * over t) (under t) (d * over t) (under t) (den_pos x) Q Q
      (reads_exact A) (reads_is d t h) (le_of_lt (within_high x (suc w) t (lt-suc_self w)))
      (scaled (suc w) d (over t) (under t) l))

  -- THE LAW: if any multiple reads back, one of the two beside x does
  pub reads_told : (d t : ℕ) → reads x d t ≡ true → told x t ≡ true
  reads_told d t h = told_by x t (elim (lt_or_le (within x t) d) [
    | inl l ↦ inr (upper_reads d t l h)
    | inr l ↦ inl (lower_reads d t l h)
  ])

  -- THE LAW: where a power of ten serves, each smaller one does
  pub told_below : (t k : ℕ) → told x (t + k) ≡ true → told x t ≡ true
  told_below t k h = elim (told_either x (t + k) h) [
    | inl r ↦ reads_told (within x (t + k) * 10 ^ k) t (reads_lower (within x (t + k)) t k r)
    | inr r ↦ reads_told (suc (within x (t + k)) * 10 ^ k) t (reads_lower (suc (within x (t + k))) t k r)
  ]

  pub told_from : (s t : ℕ) → s ≤ t → told x t ≡ true → told x s ≡ true
  told_from s t h e =
      let m : s + (t - s) ≡ t = omega arith in
      told_below s (t - s) (ap (λ (n : ℕ). told x n) m ∙ e)

  pub told_down : (t : ℕ) → told x (suc t) ≡ true → told x t ≡ true
  told_down t h = told_from t (suc t) (omega arith) h
