-- atan above 1: the inverse as the code divides, and that atan of it is below π/2. Assumes nothing.
use Rattle.std.specs.Prelude.{◌≡◌, ℕ, zero, suc, ◌+◌, ◌*◌, ◌/◌, ◌^◌, ◌<◌, ◌≤◌, []}
use Rattle.std.proofs.Common.{sym, subst, le_trans, div-le_self, mul-le-mul, arith, pow_pos}
use Rattle.std.proofs.Math.Nat.{div-le_of_le-mul, div-div-eq-div-mul, pow-succ'}
use Rattle.std.specs.Float.Ieee.Nearest.{div_same}
use Rattle.enclosure.specs.Quotient.{Quotient, parts}
use Rattle.enclosure.specs.Rules.{atan_answer, half_pi, steep_answer}
use Rattle.enclosure.proofs.Sizes.{steep_size}
use Rattle.enclosure.proofs.Steep.{inverse_most}

module _ (m e : ℕ) (low : 2 ^ 52 ≤ m) where
  pub inverse_is : 2 ^ 61 * 2 ^ 62 / (m * 512) ≡ 2 ^ 114 / m
  inverse_is =
      let p : 0 < m * 512 = omega arith in
      let q : 0 < m = omega arith in
      div_same (2 ^ 61 * 2 ^ 62) (m * 512) (2 ^ 114) m p q (omega arith)

  abbrev tau : ℕ
  tau = 2 ^ 114 / m / 2 ^ e

  pub inverse_fits : tau ≤ 2 ^ 62
  inverse_fits = let k : 2 ^ 114 / m ≤ 2 ^ 62 = div-le_of_le-mul m (omega arith) in le_trans (div-le_self (2 ^ 114 / m) (2 ^ e)) k

  -- the argument as a quotient, above 1
  abbrev pub steep : Quotient
  steep = parts 52 (m * 2 ^ e)

  same_inverse : steep.den * 2 ^ 62 / steep.num ≡ tau
  same_inverse = sym (div-div-eq-div-mul (2 ^ 114) m (2 ^ e))

  module _ (above : 2 ^ 52 < m * 2 ^ e) where
    pub arc_below : atan_answer 0 tau ≤ half_pi
    arc_below =
        let most : atan_answer 0 (steep.den * 2 ^ 62 / steep.num) ≤ 2 ^ 62 + 10 = inverse_most steep above in
        let here : atan_answer 0 tau ≤ 2 ^ 62 + 10 = subst (λ (n : ℕ). atan_answer 0 n ≤ 2 ^ 62 + 10) same_inverse most in
        omega arith

    pub steep_some : 2 ^ 61 ≤ steep_answer tau
    steep_some = subst (λ (n : ℕ). 2 ^ 61 ≤ steep_answer n) same_inverse (steep_size steep above)

-- a pattern past 1 has an exponent past 0, or digits past the leading one
pub past_one : (m e : ℕ) → 2 ^ 52 ≤ m → (e ≡ 0 → 2 ^ 52 < m) → 2 ^ 52 < m * 2 ^ e
past_one m zero low h = let k = h (omega arith) in omega arith
past_one m (suc e) low h = rw (pow-succ' 2 e) (omega (arith, mul-le-mul low (pow_pos e)))
