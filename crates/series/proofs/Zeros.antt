-- Leading zeros: of ln's exponent e, with the rule's sum as the code forms it, and of digits that are shifted up.
-- Assumes nothing.
use Rattle.std.proofs.Common.{◌≡◌, ℕ, suc, ◌+◌, ◌-◌, ◌*◌, ◌/◌, ◌%◌, ◌^◌, ◌<◌, ◌≤◌, Bool, true, false, [], ◌∷◌, sym, refl, ap, ◌∙◌, subst, inl, inr, mul-le-mul_right, mod-eq_of_lt, le_antisymm, mul-lt-mul_of_pos_right, arith, pow_pos, pow_mono, pow-add}
use native.Mathlib.Nat.{pow-succ'}
use lib.Count.{count_leading_zeros, leading_length}
use lib.Ieee.{size}
use lib.Ieee.Digits.{size-lt, size-le}
use lib.Ieee.Nearest.{div_same}
use Rattle.algebra.specs.Ring.{◌:*◌, ◌≈◌, ◌⊩◌, ◌times◌≼◌}
use Rattle.algebra.proofs.Ring.{ring}
use Rattle.algebra.specs.Order.{lt_or_le}
use Rattle.enclosure.specs.Rules.{T-answer, ln_two, gain_answer, loss_answer}
use Rattle.series.specs.Ln.{close_answer}
use Rattle.series.specs.Ln1p.{seed}
use Rattle.series.specs.Ranges.{Distance, Close}
use Rattle.series.specs.Exponents.{size_least, size_most, full_low, full_high}

-- a number of `length` digits
size_is : (e b : ℕ) → e < 2 ^ b → 2 ^ b ≤ 2 * e + 1 → size e ≡ b
size_is e b high low = le_antisymm (size-le e b high) (elim (lt_or_le (size e) b) [
  | inl l ↦
      let m : 2 ^ suc (size e) ≤ 2 ^ b = pow_mono {i = suc (size e)} {j = b} l in
      absurd (omega (arith, size-lt e, pow-succ' 2 (size e)))
  | inr l ↦ l
])

pub zeros : (e : ℕ) → e < 2 ^ 64 → count_leading_zeros 64 e + size e ≡ 64
zeros e h =
    let found = leading_length 64 e h in
    ap (λ (b : ℕ). count_leading_zeros 64 e + b) (size_is e found.0 found.2 found.3) ∙ found.1

module _ (e : ℕ) (least : 1 ≤ e) (most : e < 2 ^ 11) where
  abbrev z : ℕ
  z = count_leading_zeros 64 e

  abbrev b : ℕ
  b = size e

  sum_zeros : z + b ≡ 64
  sum_zeros = zeros e (omega arith)

  some : 1 ≤ b
  some = size_least e least

  pub zeros_least : 53 ≤ z
  zeros_least = omega (arith, sum_zeros, size-le e 11 most)

  pub zeros_most : z ≤ 63
  zeros_most = omega (arith, sum_zeros, some)

  pub scale_is : z - 1 ≡ 63 - b
  scale_is = omega (arith, sum_zeros, some)

  powers : 2 ^ z * 2 ^ b ≡ 2 ^ 64
  powers = sym (pow-add 2 z b) ∙ ap (λ (k : ℕ). 2 ^ k) sum_zeros

  -- e at the top of a word
  top_fits : e * 2 ^ z < 2 ^ 64
  top_fits = subst (λ (n : ℕ). e * 2 ^ z < n) (mul_comm_powers ∙ powers) (mul-lt-mul_of_pos_right (size-lt e) (pow_pos z))
    where
      mul_comm_powers : 2 ^ b * 2 ^ z ≡ 2 ^ z * 2 ^ b
      mul_comm_powers = omega arith

  cross : (e P Q L W : ℕ) → P * Q ≡ W → e * P * L * Q ≡ e * L * W
  cross = ring 5 (λ e P Q L W. (e :* L times P :* Q ≼ W) ∷ [] ⊩ e :* P :* L :* Q ≈ e :* L :* W) tt

  pub first_is : e * 2 ^ z % 2 ^ 64 * ln_two / 2 ^ 64 ≡ e * ln_two / 2 ^ b
  first_is =
      ap (λ (n : ℕ). n * ln_two / 2 ^ 64) (mod-eq_of_lt top_fits)
      ∙ div_same (e * 2 ^ z * ln_two) (2 ^ 64) (e * ln_two) (2 ^ b) (pow_pos 64) (pow_pos b)
      (cross e (2 ^ z) (2 ^ b) ln_two (2 ^ 64) powers)

  pub second_is : (t : ℕ) → t / 2 ^ (63 - z) ≡ 2 * t / 2 ^ b
  second_is t =
      let k = 63 - z in
      let f : b ≡ suc k = omega (arith, sum_zeros, some) in
      let twice : 2 ^ b ≡ 2 ^ k * 2 = ap (λ (n : ℕ). 2 ^ n) f ∙ pow-succ' 2 k ∙ omega arith in
      div_same t (2 ^ k) (2 * t) (2 ^ b) (pow_pos k) (pow_pos b) (rw twice (omega arith))

-- ---- digits that are shifted up to 53, by 11 fewer than their leading zeros
module _ (n : ℕ) (least : 1 ≤ n) (most : n < 2 ^ 53) where
  all_zeros : count_leading_zeros 64 n + size n ≡ 64
  all_zeros = zeros n (omega arith)

  pub shift_least : 11 ≤ count_leading_zeros 64 n
  shift_least = omega (arith, all_zeros, size_most n least most)

  pub shift_most : count_leading_zeros 64 n ≤ 63
  shift_most = omega (arith, all_zeros, size_least n least)

  pub shift_is : count_leading_zeros 64 n - 11 ≡ 53 - size n
  shift_is = omega (arith, all_zeros, size_most n least most)

  pub shifted_is : n * 2 ^ (count_leading_zeros 64 n - 11) % 2 ^ 64 ≡ n * 2 ^ (53 - size n)
  shifted_is = rw shift_is (mod-eq_of_lt (word (n * 2 ^ (53 - size n)) (full_high n least most)))
    where
      word : (m : ℕ) → m < 2 ^ 53 → m < 2 ^ 64
      word m h = omega arith

-- ---- the distance from 1, so shifted
pub closed : (s n : ℕ) → Distance s n → Close s (53 - size n) (n * 2 ^ (53 - size n))
closed s n h =
    let j = 53 - size n in
    record {
      most = omega arith;
      low = full_low n h.least h.most;
      high = full_high n h.least h.most;
      small = λ e. rw (pow-add 2 53 j) (few n (2 ^ j) (h.half e));
    }
  where
    few : (n J : ℕ) → n ≤ 2 ^ 52 → 4 * (n * J) ≤ 3 * (2 ^ 53 * J)
    few n J l = omega (arith, mul-le-mul_right J l)

pub close_is : (t : Bool) (j n : ℕ) → T-answer j (seed t j (n * 2 ^ j)) ≡ close_answer t j n
unfolding gain_answer loss_answer
close_is true j n = refl
close_is false j n = refl
