-- A digit of 31 bits of the quotient p / d, by one more than the upper part of d; and two digits are the quotient. Assumes
-- nothing.
use Rattle.std.proofs.Common.{◌≡◌, ℕ, ◌+◌, ◌-◌, ◌*◌, ◌/◌, ◌%◌, ◌^◌, ◌<◌, ◌≤◌, [], ◌∷◌, sym, ap, ◌∙◌, mod-lt, div-lt_iff_lt-mul, mul-le-mul, div-add-mod', le_of_mul-le-mul_right, arith}
use lib.Arith.{digits_div}
use Rattle.algebra.specs.Ring.{con, ◌:+◌, ◌:*◌, ◌≈◌, ◌⊩◌, ◌times◌≼◌}
use Rattle.algebra.proofs.Ring.{ring}
use Rattle.series.specs.Quotient.{Divided, Nearer}

-- (u is the upper part and one more, g what was put on top of d)
estimate : (q u x d g : ℕ) → d + g ≡ u * 2 ^ 31 → q * d + (x * 2 ^ 31 + q * g) ≡ (q * u + x) * 2 ^ 31
estimate =
    ring 5 (λ q u x d g. (q times d :+ g ≼ u :* con (2 ^ 31))
    ∷ [] ⊩ q :* d :+ (x :* con (2 ^ 31) :+ q :* g) ≈ (q :* u :+ x) :* con (2 ^ 31)) tt

module _ (p d : ℕ) (ranges : (p ≤ d) × (2 ^ 61 ≤ d) × (d < 2 ^ 63)) where
  abbrev u : ℕ
  u = d / 2 ^ 31 + 1

  abbrev q : ℕ
  q = p / u

  abbrev x : ℕ
  x = p % u

  abbrev g : ℕ
  g = 2 ^ 31 - d % 2 ^ 31

  abbrev r : ℕ
  r = x * 2 ^ 31 + q * g

  pub digit_fits : q < 2 ^ 31
  digit_fits = let h : 0 < u = omega arith in (div-lt_iff_lt-mul h).1 (omega (arith, ranges.0))

  pub rest_fits : x * 2 ^ 31 ≤ d
  rest_fits = let h : 0 < u = omega arith in omega (arith, mod-lt p h)

  pub top_fits : q * g ≤ (2 ^ 31 - 1) * 2 ^ 31
  top_fits =
      let a : q ≤ 2 ^ 31 - 1 = omega (arith, digit_fits) in
      let b : g ≤ 2 ^ 31 = omega arith in
      mul-le-mul a b

  whole : q * d + r ≡ p * 2 ^ 31
  whole =
      let e : d + g ≡ u * 2 ^ 31 = omega arith in
      estimate q u x d g e ∙ ap (λ (z : ℕ). z * 2 ^ 31) (div-add-mod' p u)

  -- after two steps the rest is below d
  pub settled : (q' r' q'' r'' : ℕ) → Nearer d q r q' r' → Nearer d q' r' q'' r'' → Divided (p * 2 ^ 31) d q'' r''
  settled q' r' q'' r'' one two = record {
    whole = two.same ∙ one.same ∙ whole;
    small = two.one (one.two (omega (arith, rest_fits, top_fits, ranges.1)));
  }

-- ---- a digit is at most 2 ^ 31, and two digits are the quotient
pub digit_most : (p d n k : ℕ) → p ≤ d → Divided (p * 2 ^ 31) d n k → n ≤ 2 ^ 31
digit_most p d n k small h =
    let m : n * d ≤ 2 ^ 31 * d = omega (arith, h.whole) in
    le_of_mul-le-mul_right m (omega (arith, h.small))

joined : (p d q r q' r' : ℕ) → q * d + r ≡ p * 2 ^ 31 → q' * d + r' ≡ r * 2 ^ 31 → (q * 2 ^ 31 + q') * d + r' ≡ p * 2 ^ 62
joined =
    ring 6 (λ p d q r q' r'. (con (2 ^ 31) times q :* d :+ r ≼ p :* con (2 ^ 31))
    ∷ (con 1 times q' :* d :+ r' ≼ r :* con (2 ^ 31)) ∷ []
    ⊩ (q :* con (2 ^ 31) :+ q') :* d :+ r' ≈ p :* con (2 ^ 62)) tt

pub two_digits : (p d n k n' k' : ℕ) → Divided (p * 2 ^ 31) d n k → Divided (k * 2 ^ 31) d n' k'
    → n * 2 ^ 31 + n' ≡ p * 2 ^ 62 / d
two_digits p d n k n' k' one two =
    sym (digits_div (n * 2 ^ 31 + n') two.small) ∙ ap (λ (z : ℕ). z / d) (joined p d n k n' k' one.whole two.whole)
