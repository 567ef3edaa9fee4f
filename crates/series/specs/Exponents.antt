-- Binary digits of the exponents and of digits that are shifted up; and that ln's answers have 62 at least, and fit a word.
-- Assumes nothing.
use Rattle.std.specs.Prelude.{◌≡◌, ℕ, suc, ◌+◌, ◌-◌, ◌*◌, ◌^◌, ◌<◌, ◌≤◌}
use Rattle.std.proofs.Common.{sym, ap, ◌∙◌, subst, inl, inr, le_of_eq, le_trans, lt_of_lt_of_le, mul-le-mul_right, mul-lt-mul_of_pos_right, arith, pow_pos, pow-add}
use Rattle.std.proofs.Math.Nat.{pow-succ'}
use Rattle.std.specs.Float.Ieee.{size}
use Rattle.std.specs.Float.Ieee.Digits.{size-lt, size_reaches, size-le}
use Rattle.algebra.specs.Order.{lt_or_le}
use Rattle.enclosure.specs.Rules.{ln_answer, ln_below_answer}
use Rattle.enclosure.proofs.Sizes.{ln_size, ln_fits, ln_below_size, ln_below_fits}
use Rattle.series.specs.Ranges.{Exponent}

-- ---- a number above zero
module _ (n : ℕ) (least : 1 ≤ n) where
  pub size_least : 1 ≤ size n
  size_least = elim (lt_or_le 0 (size n)) [
    | inl l ↦ l
    | inr l ↦
        let z : size n ≡ 0 = omega arith in
        let h : n < 2 ^ 0 = subst (λ (k : ℕ). n < 2 ^ k) z (size-lt n) in
        absurd (omega arith)
  ]

  pub size_half : 2 ^ size n ≤ 2 * n
  size_half =
      let k = size n - 1 in
      let l : 1 ≤ size n = size_least in
      let f : size n ≡ suc k = omega arith in
      let reach : 2 ^ k ≤ n = size_reaches n k (omega arith) in
      rw f (rw (pow-succ' 2 k) (omega arith))

  -- shifted up to 53 digits
  module _ (most : n < 2 ^ 53) where
    pub size_most : size n ≤ 53
    size_most = size-le n 53 most

    joined : (i j k : ℕ) → i + j ≡ k → 2 ^ i * 2 ^ j ≡ 2 ^ k
    joined i j k e = sym (pow-add 2 i j) ∙ ap (λ (m : ℕ). 2 ^ m) e

    pub full_low : 2 ^ 52 ≤ n * 2 ^ (53 - size n)
    full_low =
        let l : 1 ≤ size n = size_least in
        let h : size n ≤ 53 = size_most in
        let e : size n - 1 + (53 - size n) ≡ 52 = omega arith in
        le_trans (le_of_eq (sym (joined (size n - 1) (53 - size n) 52 e)))
        (mul-le-mul_right (2 ^ (53 - size n)) (size_reaches n (size n - 1) (omega arith)))

    pub full_high : n * 2 ^ (53 - size n) < 2 ^ 53
    full_high =
        let h : size n ≤ 53 = size_most in
        let e : size n + (53 - size n) ≡ 53 = omega arith in
        lt_of_lt_of_le (mul-lt-mul_of_pos_right (size-lt n) (pow_pos (53 - size n)))
        (le_of_eq (joined (size n) (53 - size n) 53 e))

-- ---- ln's exponent e
module _ (e m : ℕ) (range : Exponent e m) where
  abbrev b : ℕ
  b = size e

  pub digits_most : b ≤ 11
  digits_most = size-le e 11 range.most

  pub digits_least : 1 ≤ b
  digits_least = size_least e range.least

  pub answer_fits : ln_answer b e m < 2 ^ 64
  answer_fits = ln_fits m b e range.low range.high range.least (size-lt e)

  pub answer_size : 2 ^ 61 ≤ ln_answer b e m
  answer_size = ln_size b e m (size_half e range.least)

  pub below_fits : ln_below_answer b e m < 2 ^ 64
  below_fits = ln_below_fits m b e range.low range.high range.least (size-lt e)

  pub below_size : 2 ^ 61 ≤ ln_below_answer b e m
  below_size = ln_below_size b e m (size_half e range.least)
