-- The root's digits, by the upper word of their square, and its exponent. C has the digits of the root at the left end of a word,
-- T those of the number at the scale of that upper word, and t is C / 2 ^ 53. Assumes nothing.
use Rattle.std.proofs.Common.{◌≡◌, ℕ, ◌+◌, ◌-◌, ◌*◌, ◌/◌, ◌%◌, ◌^◌, ◌<◌, ◌≤◌, [], ◌∷◌, sym, ap, ◌∙◌, subst, inl, inr, mul-le-mul, lt_of_mul-lt-mul_right, le-div_iff_mul-le, div-mul-le_self, le_of_mul-le-mul_right, arith}
use native.Mathlib.Nat.{lt-div-mul-add}
use Rattle.algebra.specs.Ring.{con, nxt, ◌:+◌, ◌:*◌, ◌≈◌, ◌⊩◌, ◌times◌≼◌}
use Rattle.algebra.proofs.Ring.{below}
use Rattle.algebra.specs.Order.{lt_or_le}
use lib.Ieee.{binary64, of_bits}
use Rattle.rounding.specs.Cut.{infinity}
use Rattle.root.specs.Root.{root}
use Rattle.root.specs.Parts.{Scaled, RootDigits, Held}
use Rattle.root.proofs.Law.{root_pattern}
use Rattle.root.proofs.Scale.{normal_odd, normal_even}

-- ---- with the upper word H of C * C no more than t from T, T is no more than half a unit of the root's last digit from C * C
below_it : (T C H t : ℕ) → C * C < H * 2 ^ 64 + 2 ^ 64 → t * 2 ^ 53 ≤ C → H + 1 ≤ T + t → C * C < T * 2 ^ 64 + C * 2 ^ 11
below_it =
    below 4 (λ T C H t.
    (con 1 times nxt (C :* C) ≼ H :* con (2 ^ 64) :+ con (2 ^ 64)) ∷ (con (2 ^ 11) times t :* con (2 ^ 53) ≼ C) ∷
    (con (2 ^ 64) times H :+ con 1 ≼ T :+ t) ∷ []
    ⊩ nxt (C :* C) ≈ T :* con (2 ^ 64) :+ C :* con (2 ^ 11)) tt

above_it : (T C H t : ℕ) → H * 2 ^ 64 ≤ C * C → t * 2 ^ 53 ≤ C → T ≤ H + t → T * 2 ^ 64 ≤ C * C + C * 2 ^ 11
above_it =
    below 4 (λ T C H t.
    (con 1 times H :* con (2 ^ 64) ≼ C :* C) ∷ (con (2 ^ 11) times t :* con (2 ^ 53) ≼ C) ∷ (con (2 ^ 64) times T ≼ H :+ t) ∷ []
    ⊩ T :* con (2 ^ 64) ≈ C :* C :+ C :* con (2 ^ 11)) tt

-- ---- one test for both sides: neither T nor H is so small that their difference could wrap
pub record Near (T H t : ℕ) : Type 0 where
  pub least : H + 1 ≤ T + t
  pub most : T ≤ H + t

-- (d is T - H modulo 2 ^ 64: small where T is H or more, and close to 2 ^ 64 where it is less)
one_test : (T H t d v : ℕ) → 2 ^ 62 ≤ T → T < 2 ^ 64 → 2 ^ 62 ≤ H → H < 2 ^ 64 → 1 ≤ t → t ≤ 2 ^ 11
    → d < 2 ^ 64 → (d + H) % 2 ^ 64 ≡ T → v ≡ (d + (t - 1)) % 2 ^ 64 → v < 2 * t → Near T H t
one_test T H t d v a b g h p q l e f z = elim (lt_or_le (d + (t - 1)) (2 ^ 64)) [
  | inl u ↦
      let s : d ≤ t = omega arith in
      let k : T ≡ d + H = omega arith in
      record { least = omega arith; most = omega arith }
  | inr u ↦
      let s : v + 2 ^ 64 ≡ d + (t - 1) = omega arith in
      let k : T + 2 ^ 64 ≡ d + H = omega arith in
      record { least = omega arith; most = omega arith }
]

word_pos : 0 < 2 ^ 64
word_pos = omega arith

pub places_least : (C : ℕ) → 2 ^ 63 ≤ C → 1 ≤ C / 2 ^ 53
places_least C h = omega arith

pub places_most : (C : ℕ) → C < 2 ^ 64 → C / 2 ^ 53 ≤ 2 ^ 11
places_most C h = omega arith

-- the upper word of the square of 64 digits has at least 63
upper_least : (C : ℕ) → 2 ^ 63 ≤ C → 2 ^ 62 ≤ C * C / 2 ^ 64
upper_least C h = (le-div_iff_mul-le {k = 2 ^ 64} word_pos).1 (mul-le-mul h h)

-- THE LAW: what `held` has tested
pub held_is : (T C H d v : ℕ) → 2 ^ 62 ≤ T → T < 2 ^ 64 → 2 ^ 63 ≤ C → C < 2 ^ 64 → H ≡ C * C / 2 ^ 64 → H < 2 ^ 64 → d < 2 ^ 64
    → (d + H) % 2 ^ 64 ≡ T → v ≡ (d + (C / 2 ^ 53 - 1)) % 2 ^ 64 → v < 2 * (C / 2 ^ 53) → Held T C
held_is T C H d v a b p q e h l w f z =
    let t = C / 2 ^ 53 in
    let g : 2 ^ 62 ≤ H = subst (λ (k : ℕ). 2 ^ 62 ≤ k) (sym e) (upper_least C p) in
    let n : Near T H t = one_test T H t d v a b g h (places_least C p) (places_most C q) l w f z in
    record {
      above = below_it T C H t (subst (λ (k : ℕ). C * C < k * 2 ^ 64 + 2 ^ 64) (sym e) (lt-div-mul-add word_pos))
          (div-mul-le_self C (2 ^ 53)) n.least;
      within = above_it T C H t (subst (λ (k : ℕ). k * 2 ^ 64 ≤ C * C) (sym e) (div-mul-le_self (C * C) (2 ^ 64)))
          (div-mul-le_self C (2 ^ 53)) n.most;
    }

-- ---- the 53 digits c of the root, 11 places higher, and the number n that is so scaled, 10 places higher
above_low : (n c : ℕ) → c * 2 ^ 11 * (c * 2 ^ 11) < n * 2 ^ 10 * 2 ^ 64 + c * 2 ^ 11 * 2 ^ 11
    → c * c * 2 ^ 22 < (n * 2 ^ 52 + c) * 2 ^ 22
above_low =
    below 2 (λ n c.
    (con 1 times nxt (c :* con (2 ^ 11) :* (c :* con (2 ^ 11))) ≼ n :* con (2 ^ 10) :* con (2 ^ 64) :+ c :* con (2 ^ 11) :* con
    (2 ^ 11)) ∷ []
    ⊩ nxt (c :* c :* con (2 ^ 22)) ≈ (n :* con (2 ^ 52) :+ c) :* con (2 ^ 22)) tt

within_low : (n c : ℕ) → n * 2 ^ 10 * 2 ^ 64 ≤ c * 2 ^ 11 * (c * 2 ^ 11) + c * 2 ^ 11 * 2 ^ 11
    → n * 2 ^ 52 * 2 ^ 22 ≤ (c * c + c) * 2 ^ 22
within_low =
    below 2 (λ n c.
    (con 1 times n :* con (2 ^ 10) :* con (2 ^ 64) ≼ c :* con (2 ^ 11) :* (c :* con (2 ^ 11)) :+ c :* con (2 ^ 11) :* con
    (2 ^ 11)) ∷ []
    ⊩ n :* con (2 ^ 52) :* con (2 ^ 22) ≈ (c :* c :+ c) :* con (2 ^ 22)) tt

pub held_digits : (n c : ℕ) → Held (n * 2 ^ 10) (c * 2 ^ 11) → RootDigits n c
held_digits n c h = record {
  above = lt_of_mul-lt-mul_right (2 ^ 22) (above_low n c h.above);
  within = le_of_mul-le-mul_right {k = 2 ^ 22} (within_low n c h.within) (omega arith);
}

-- ---- where the exponent is odd, the number's digits stand one place lower
lower_odd : (x p : ℕ) → p ≡ 1 → (x * 2 ^ 11 + 2 ^ 63) / 2 ^ p ≡ (x + 2 ^ 52) * 2 ^ 10
lower_odd x p e = rw e (halved x)
  where
    halved : (x : ℕ) → (x * 2 ^ 11 + 2 ^ 63) / 2 ≡ (x + 2 ^ 52) * 2 ^ 10
    halved x = omega arith

lower_even : (x p : ℕ) → p ≡ 0 → (x * 2 ^ 11 + 2 ^ 63) / 2 ^ p ≡ (x + 2 ^ 52) * 2 * 2 ^ 10
lower_even x p e = rw e (whole x)
  where
    whole : (x : ℕ) → (x * 2 ^ 11 + 2 ^ 63) / 1 ≡ (x + 2 ^ 52) * 2 * 2 ^ 10
    whole x = omega arith

pub lower_least : (x p : ℕ) → p < 2 → 2 ^ 62 ≤ (x * 2 ^ 11 + 2 ^ 63) / 2 ^ p
lower_least x p h = elim (lt_or_le p 1) [
  | inl l ↦ let e : p ≡ 0 = omega arith in omega (arith, lower_even x p e)
  | inr l ↦ let e : p ≡ 1 = omega arith in omega (arith, lower_odd x p e)
]

-- THE LAW: what `matches` has tested. The root's pattern is y * 2 ^ 52 with the digits c, whose leading one makes the exponent.
module _ (b s : ℕ) (h : (2 ^ 52 ≤ b) × (b < infinity)) (t : s / 2 ^ 52 ≡ (b / 2 ^ 52 + 1023) / 2) where
  abbrev c : ℕ
  c = s % 2 ^ 52 + 2 ^ 52

  abbrev y : ℕ
  y = (b / 2 ^ 52 + 1021) / 2

  abbrev odd : ℕ
  odd = b / 2 ^ 52 % 2

  abbrev T : ℕ
  T = (b % 2 ^ 52 * 2 ^ 11 + 2 ^ 63) / 2 ^ odd

  whole : y * 2 ^ 52 + c ≡ s
  whole = omega arith

  at_left : s % 2 ^ 52 * 2 ^ 11 + 2 ^ 63 ≡ c * 2 ^ 11
  at_left = omega arith

  by_parts : (n : ℕ) → T ≡ n * 2 ^ 10 → Scaled b n y → Held T (s % 2 ^ 52 * 2 ^ 11 + 2 ^ 63)
      → of_bits binary64 s ≡ root (of_bits binary64 b)
  by_parts n e z g =
      let d = held_digits n c (subst (λ (k : ℕ). Held k (c * 2 ^ 11)) e (subst (λ (k : ℕ). Held T k) at_left g)) in
      sym (root_pattern c (omega arith, h.1) z d ∙ ap (λ (k : ℕ). of_bits binary64 k) whole)

  pub matches_is : Held T (s % 2 ^ 52 * 2 ^ 11 + 2 ^ 63) → of_bits binary64 s ≡ root (of_bits binary64 b)
  matches_is = elim (lt_or_le odd 1) [
    | inl l ↦ by_parts _ (lower_even (b % 2 ^ 52) odd (omega arith)) (normal_even b h.0 (λ o. omega arith))
    | inr l ↦ by_parts _ (lower_odd (b % 2 ^ 52) odd (omega arith)) (normal_odd b h.0 (omega arith))
  ]
