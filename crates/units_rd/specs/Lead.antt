-- Why RD's series is taken only at small arguments, though its bound q is of signed differences. All numbers are units: l is
-- the units of 1. M is the largest difference a - x, a - y, a - z above zero, as rounded; q is 64 times that at least, so the
-- differences above zero are small where the loop ends. One below zero is no more than the others' weight in the mean, up to
-- the roundings: G ≤ 6 M + a / 2 ^ 40. Assumes nothing.
use Rattle.std.specs.Prelude.{◌≡◌, [], ◌∷◌, ℕ, ◌+◌, ◌-◌, ◌*◌, ◌^◌, ◌≤◌, ◌<◌}
use Rattle.std.proofs.Common.{sym, ap, ◌∙◌, inl, inr, le_trans, le_of_eq, le_of_lt, lt_of_lt_of_le, lt_of_le_of_lt, mul_assoc, mul-lt-mul_of_pos_right, not-le_of_lt, zero-lt-suc, mul-le-mul_right, arith, pow-add, pow_pos, pow_mono}
use Rattle.std.proofs.Math.Nat.{le_of_mul-le-mul_left}
use Rattle.std.proofs.Math.Pow.{pow-lt}
use Rattle.std.specs.Float.{Format}
use Rattle.std.specs.Float.Ieee.{prec, low}
use Rattle.std.specs.Float.Ieee.Digits.{back}
use Rattle.algebra.specs.Ring.{con, ◌:+◌, ◌:*◌, ◌≈◌, ◌⊩◌, ◌times◌≼◌, Order}
use Rattle.algebra.proofs.Ring.{by_below}
use Rattle.scaling.specs.Near.{near, digits, near_mono, near_exact, either}
use Rattle.scaling.specs.Last.{Digits}

-- ---- a difference below zero: p is x - a, b is a - y and c is a - z where these are above zero
below_mean : Order 6 (λ g p b c a m.
    (con (2 ^ 40 * 2 ^ 52) times con (2 ^ 52) :* g ≼ con (2 ^ 52 + 1) :* p)
    ∷ (con (2 ^ 40 * (2 ^ 52 + 1)) times con (2 ^ 52) :* p ≼ con (2 ^ 52) :* (b :+ con 3 :* c) :+ con 20 :* a)
    ∷ (con (2 ^ 40 * (2 ^ 52 + 1)) times con (2 ^ 52) :* b ≼ con (2 ^ 52 + 1) :* m)
    ∷ (con (3 * 2 ^ 40 * (2 ^ 52 + 1)) times con (2 ^ 52) :* c ≼ con (2 ^ 52 + 1) :* m)
    ∷ []
    ⊩ con (2 ^ 104) :* (con (2 ^ 40) :* g) ≈ con (2 ^ 104) :* (con (6 * 2 ^ 40) :* m :+ a))
below_mean = by_below tt

pub low_side : (g p b c a m : ℕ) → 2 ^ 52 * g ≤ (2 ^ 52 + 1) * p → 2 ^ 52 * p ≤ 2 ^ 52 * (b + 3 * c) + 20 * a
    → 2 ^ 52 * b ≤ (2 ^ 52 + 1) * m
    → 2 ^ 52 * c ≤ (2 ^ 52 + 1) * m → 2 ^ 40 * g ≤ 6 * 2 ^ 40 * m + a
low_side g p b c a m h i j k = le_of_mul-le-mul_left (below_mean.law g p b c a m h i j k) (pow_pos 104)

-- a difference above zero is one of those that M is the largest of
pub high_side : (g m a : ℕ) → g ≤ m → 2 ^ 40 * g ≤ 6 * 2 ^ 40 * m + a
high_side g m a h = omega arith

-- ---- 2 ^ -t of a float that has t digits to spare is exact
spare : (M j p t n : ℕ) → n ≡ M * 2 ^ j → M < 2 ^ p → 2 ^ (p + t) ≤ n → t ≤ j
spare M j p t n e s h =
    elim (either t j) [
      | inl g ↦ g
      | inr g ↦
          absurd (not-le_of_lt (lt_of_le_of_lt (le_of_eq e)
          (lt_of_lt_of_le (mul-lt-mul_of_pos_right s (pow_pos j))
          (le_trans (le_of_eq (sym (pow-add 2 p j))) (pow_mono (more p j (le_of_lt g)))))) h)
    ]
  where
    more : (p j : ℕ) → j ≤ t → p + j ≤ p + t
    more p j h = omega arith

pub part : {f : Format} {n : ℕ} (t : ℕ) → Digits f n → 2 ^ (prec f + t) ≤ n → near f n (2 ^ t) * 2 ^ t ≡ n
part {f} {n} t D h =
    let i : ℕ = D.j - t in
    let r : ℕ = D.M * 2 ^ i in
    let e : n ≡ r * 2 ^ t =
    D.is ∙ ap (λ z. D.M * 2 ^ z) (sym (back D.j t (spare D.M D.j (prec f) t n D.is D.small h)))
    ∙ ap (λ z. D.M * z) (pow-add 2 i t) ∙ sym (mul_assoc D.M (2 ^ i) (2 ^ t)) in
    ap (λ z. z * 2 ^ t) (ap (λ (z : ℕ). near f z (2 ^ t)) e ∙ near_exact f D.M i (2 ^ t) (pow_pos t) D.small) ∙ sym e

-- ---- where the loop ends: W is 4 ^ -n, a the first mean and A the last
within_eighth : Order 6 (λ g m a w A l.
    (con 8 :* w times con (2 ^ 40) :* g ≼ con (6 * 2 ^ 40) :* m :+ a)
    ∷ (con (48 * 2 ^ 34) times con 64 :* m :* w ≼ A :* l)
    ∷ (con 8 times a :* w ≼ A :* l)
    ∷ []
    ⊩ con (2 ^ 40) :* (w :* g :* con 8) ≈ con (2 ^ 40) :* (A :* l))
within_eighth = by_below tt

-- the correction W * G / A, each step rounded, is an eighth at most
pub ends_small : (f : Format) (G M a W A i : ℕ) → Digits f A → i + 3 ≡ low f → 2 ^ (prec f + 3) ≤ A → 0 < A
    → 2 ^ 40 * G ≤ 6 * 2 ^ 40 * M + a → 64 * M * W ≤ A * 2 ^ low f → a * W ≤ A * 2 ^ low f
    → near f (near f (W * G) (2 ^ low f) * 2 ^ low f) A ≤ 2 ^ i
ends_small f G M a W A i D e big pos h j k =
    let l = 2 ^ low f in
    let C = near f (W * G) l in
    let first : W * G * 8 ≤ A * l = le_of_mul-le-mul_left (within_eighth.law G M a W A l h j k) (pow_pos 40) in
    let small : C ≤ near f A 8 = near_mono f (W * G) l A 8 (pow_pos (low f)) (zero-lt-suc 7) first in
    let eighth : near f A 8 * 8 ≡ A = part 3 D big in
    let C-small : C * 8 ≤ A = le_trans (mul-le-mul_right 8 small) (le_of_eq eighth) in
    let s : l ≡ 2 ^ i * 8 = ap (λ z. 2 ^ z) (sym e) ∙ pow-add 2 i 3 in
    le_trans
    (near_mono f (C * l) A (1 * 2 ^ i * 1) 1 pos (zero-lt-suc 0) (last_step.law C l (2 ^ i) A (le_of_eq s) C-small))
    (le_of_eq (near_exact f 1 i 1 (zero-lt-suc 0) (pow-lt (digits f)) ∙ (let r : 1 * 2 ^ i ≡ 2 ^ i = omega arith in r)))
  where
    last_step : Order 4 (λ c l i a. (c times l ≼ i :* con 8) ∷ (i times c :* con 8 ≼ a)
        ∷ [] ⊩ c :* l :* con 1 ≈ con 1 :* i :* con 1 :* a)
    last_step = by_below tt

-- ---- what a pass keeps
-- q and W are both divided by four, exactly
pub lead_kept : (M W Q W' Q' l : ℕ) → W' * 4 ≡ W → Q' * 4 ≡ Q → 64 * M * W ≤ Q * l → 64 * M * W' ≤ Q' * l
lead_kept M W Q W' Q' l e g h =
    le_of_mul-le-mul_left (le_trans (le_of_eq (left M W' ∙ ap (λ (z : ℕ). 64 * M * z) e))
    (le_trans h (le_of_eq (ap (λ (z : ℕ). z * l) (sym g) ∙ right Q' l)))) (zero-lt-suc 3)
  where
    left : (m w : ℕ) → 4 * (64 * m * w) ≡ 64 * m * (w * 4)
    left m w = omega arith

    right : (q l : ℕ) → q * 4 * l ≡ 4 * (q * l)
    right q l = omega arith

-- the mean falls to a quarter at most
pub mean_kept : (a W A W' A' l : ℕ) → W' * 4 ≡ W → A ≤ A' * 4 → a * W ≤ A * l → a * W' ≤ A' * l
mean_kept a W A W' A' l e g h =
    le_of_mul-le-mul_left
    (le_trans (le_of_eq (left a W' ∙ ap (λ (z : ℕ). a * z) e))
    (le_trans h (le_trans (mul-le-mul_right l g) (le_of_eq (right A' l))))) (zero-lt-suc 3)
  where
    left : (m w : ℕ) → 4 * (m * w) ≡ m * (w * 4)
    left m w = omega arith

    right : (q l : ℕ) → q * 4 * l ≡ 4 * (q * l)
    right q l = omega arith
