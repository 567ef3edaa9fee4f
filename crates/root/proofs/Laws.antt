-- What `root` answers for a number above zero: the f64 nearest to the exact root, the even one of two that are equally near, and
-- that no second answer would do. Assumes nothing.
use Rattle.std.specs.Prelude.{◌≡◌, ℕ, suc, ◌+◌, ◌-◌, ◌*◌, ◌^◌, ◌<◌, ◌≤◌, false, [], ◌∷◌, ℤ, ◌≢◌, from_bits}
use Prim.Native.Nat.{compare, Ordering}
use Rattle.std.proofs.Common.{sym, ap, ◌∙◌, inl, inr, mul_assoc, mul-le-mul_right, lt_of_mul-lt-mul_right, arith, leb→le, pow_pos, pow-add}
use Rattle.std.proofs.Math.Nat.{eq_of_mul-eq-mul_right}
use Rattle.std.specs.Float.{fin, binary64}
use Rattle.std.specs.Float.Ieee.{up, down}
use Rattle.std.specs.Float.Ieee.Fits.{down_pos}
use Rattle.std.specs.Float.Ieee.Exact.{HasValue}
use Rattle.algebra.specs.Ring.{con, nxt, ◌:+◌, ◌:*◌, ◌≈◌, ◌⊩◌, ◌times◌≼◌}
use Rattle.algebra.proofs.Ring.{below, ring}
use Rattle.algebra.specs.Order.{lt_or_le, lt_compare, scaled_compare}
use Rattle.rounding.specs.Laws.{Number, Nearest, middle}
use Rattle.rounding.proofs.Laws.{rounded_nearest, nearest_rounded}
use Rattle.root.specs.Root.{root_of, root}
use Rattle.root.specs.Parts.{four, Scaled}

-- ---- √(p / q) is one number: squares keep the order
squares : (a b c d p q : ℕ) → a * d < c * b → c * c * q ≤ p * (d * d) → 0 < q → a * a * q * (d * d) < p * (b * b) * (d * d)
squares =
    below 6 (λ a b c d p q.
    (q :* (a :* d :+ c :* b :+ con 1) times nxt (a :* d) ≼ c :* b) ∷ (b :* b times c :* c :* q ≼ p :* (d :* d)) ∷
    (con 1 times con 1 ≼ q) ∷ []
    ⊩ nxt (a :* a :* q :* (d :* d)) ≈ p :* (b :* b) :* (d :* d)) tt

pub root_number : (p q : ℕ) → 0 < q → Number (root_of p q)
root_number p q Q = record {
  below = λ a b c d B D h t.
      lt_compare (a * a * q) (p * (b * b)) (lt_of_mul-lt-mul_right (d * d)
      (squares a b c d p q h (leb→le (c * c * q) (p * (d * d)) t) Q));
}

-- ---- the answer is nearest, and nothing else is
module _ (m : ℕ) (e : ℤ) where
  -- the exact root of the number suc m * 2 ^ e
  abbrev exact : ℕ → ℕ → Ordering
  exact = root_of (suc m * up e) (down e)

  one_number : Number exact
  one_number = root_number (suc m * up e) (down e) (down_pos e)

  pub root_nearest : (n : ℕ) × (root (fin false (suc m) e) ≡ from_bits binary64 n) × Nearest exact n
  unfolding root
  root_nearest = rounded_nearest exact one_number

  pub root_only : (n : ℕ) → Nearest exact n → root (fin false (suc m) e) ≡ from_bits binary64 n
  unfolding root
  root_only n h = nearest_rounded exact one_number n h

-- ---- THE COMPARISON IN WHOLE NUMBERS: where p / q is w units of 2 ^ -1074, a number of h half units, as every middle between
-- two patterns is, lies to √(p / q) as its square does to p / q: h * h to w * 2 ^ 1076, in quarters of square units
square_units : (w p q : ℕ) → p * 2 ^ 1074 ≡ w * q → p * (2 ^ 1075 * 2 ^ 1075) ≡ w * 2 ^ 1076 * q
square_units =
    ring 3 (λ w p q. (con (2 ^ 1076) times p :* con (2 ^ 1074) ≼ w :* q) ∷ [] ⊩ p :* (con (2 ^ 1075) :* con (2 ^ 1075))
    ≈ w :* con (2 ^ 1076) :* q) tt

pub by_squares : (h w p q : ℕ) → 0 < q → p * 2 ^ 1074 ≡ w * q → root_of p q h (2 ^ 1075) ≡ compare (h * h) (w * 2 ^ 1076)
by_squares h w p q Q e = ap (λ (z : ℕ). compare (h * h * q) z) (square_units w p q e) ∙ scaled_compare (h * h) (w * 2 ^ 1076) q Q

-- (document 01's words: the middle of two patterns lies below the root exactly where its square lies below x)
pub middle_by_squares : (m : ℕ) (e : ℤ) (w : ℕ) → HasValue (fin false (suc m) e) false w (2 ^ 1074)
    → (i j : ℕ) → root_of (suc m * up e) (down e) (middle i j) (2 ^ 1075) ≡ compare (middle i j * middle i j) (w * 2 ^ 1076)
middle_by_squares m e w h i j = by_squares (middle i j) w (suc m * up e) (down e) (down_pos e) h.1

-- ---- a pattern has one pair of parts: with a larger power of four, n would have a digit fewer than it must
four_pos : (y : ℕ) → 0 < four y
unfolding four
four_pos y = pow_pos (y + y)

four_more : (y k : ℕ) → four (y + suc k) ≡ 4 * four k * four y
unfolding four
four_more y k =
    let e : y + suc k + (y + suc k) ≡ 2 + (k + k) + (y + y) = omega arith in
    rw (e, pow-add 2 (2 + (k + k)) (y + y), pow-add 2 2 (k + k))

not_more : (n n' y k : ℕ) → n < 2 ^ 54 → 2 ^ 52 ≤ n' → n * four y ≢ n' * four (y + suc k)
not_more n n' y k h l e =
    let z = 4 * four k in
    let f : n ≡ n' * z = eq_of_mul-eq-mul_right (four y) (four_pos y) n (n' * z)
    (e ∙ ap (λ (w : ℕ). n' * w) (four_more y k) ∙ sym (mul_assoc n' z (four y))) in
    omega (arith, f, four_pos k, mul-le-mul_right z l)

pub scaled_only : {b n y n' y' : ℕ} → Scaled b n y → Scaled b n' y' → (n ≡ n') × (y ≡ y')
scaled_only {b} {n} {y} {n'} {y'} s t =
    elim (lt_or_le y y') [
      | inl h ↦ absurd (not_more n n' y (y' - suc y) (omega (arith, s.high)) t.low (both (y' - suc y) (omega arith)))
      | inr h ↦ elim (lt_or_le y' y) [
        | inl g ↦ absurd (not_more n' n y' (y - suc y') (omega (arith, t.high)) s.low (back (y - suc y') (omega arith)))
        | inr g ↦ let e : y ≡ y' = omega arith in
            (eq_of_mul-eq-mul_right (four y) (four_pos y) n n' (same ∙ ap (λ (w : ℕ). n' * four w) (sym e)), e)
      ]
    ]
  where
    same : n * four y ≡ n' * four y'
    same = sym s.same ∙ t.same

    both : (k : ℕ) → y' ≡ y + suc k → n * four y ≡ n' * four (y + suc k)
    both k e = same ∙ ap (λ (w : ℕ). n' * four w) e

    back : (k : ℕ) → y ≡ y' + suc k → n' * four y' ≡ n * four (y' + suc k)
    back k e = sym same ∙ ap (λ (w : ℕ). n * four w) e
