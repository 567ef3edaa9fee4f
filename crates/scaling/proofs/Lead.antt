-- Why a series is taken only at small arguments: the bound q times the power w stays 64 times ahead of a first difference D, so q
-- below the mean makes D / (mean * w) at most 1/64. All of it is about units: l is the number of units in 1.
use Rattle.std.specs.Prelude.{◌≡◌, ℕ, ◌+◌, ◌-◌, ◌*◌, ◌^◌, ◌≤◌, ◌<◌, [], ◌∷◌}
use Rattle.std.proofs.Common.{sym, ap, ◌∙◌, inl, inr, le_trans, le_of_eq, le_of_lt, lt_of_lt_of_le, lt_of_le_of_lt, mul-one, mul_assoc, mul-pos, mul-lt-mul_of_pos_right, not-le_of_lt, zero-lt-suc, arith, pow-add, pow_pos, pow_mono}
use Rattle.std.proofs.Math.Pow.{pow-lt}
use Rattle.std.specs.Float.{Format}
use Rattle.std.specs.Float.Ieee.{prec, low}
use Rattle.std.specs.Float.Ieee.Digits.{back}
use Rattle.algebra.specs.Ring.{con, ◌:*◌, ◌≈◌, ◌⊩◌, ◌times◌≼◌}
use Rattle.algebra.proofs.Ring.{ring, below}
use Rattle.scaling.specs.Near.{near, digits, near_mono, near_same, near_exact, near_whole, either}
use Rattle.scaling.specs.Last.{Digits}
use Rattle.scaling.specs.Lead.{Ahead}

-- ---- a float is not changed by rounding; a quarter and four times it are exact
pub on_grid : {f : Format} {n : ℕ} → Digits f n → near f n 1 ≡ n
on_grid {f} {n} D = ap (λ z. near f z 1) (D.is ∙ sym (mul-one _)) ∙ near_exact f D.M D.j 1 (zero-lt-suc 0) D.small
    ∙ sym D.is

pub shifted : {f : Format} {n : ℕ} (t : ℕ) → Digits f n → near f (n * 2 ^ t) 1 ≡ n * 2 ^ t
shifted {f} {n} t D = near_whole f n t ∙ ap (λ z. z * 2 ^ t) (on_grid D)

pub four_times : {f : Format} {n : ℕ} → Digits f n → near f (n * (4 * 2 ^ low f)) (2 ^ low f) ≡ n * 4
four_times {f} {n} D =
    near_same f (n * (4 * 2 ^ low f)) (2 ^ low f) (n * 2 ^ 2) 1 (pow_pos (low f)) (zero-lt-suc 0)
    (ring 2 (λ n l. n :* (con 4 :* l) :* con 1 ≈ n :* con 4 :* l) tt n (2 ^ low f)) ∙ shifted 2 D

low_digits : (M j p n : ℕ) → n ≡ M * 2 ^ j → M < 2 ^ p → 2 ^ (p + 2) ≤ n → 2 ≤ j
low_digits M j p n e s h =
    elim (either 2 j) [
      | inl g ↦ g
      | inr g ↦
          absurd (not-le_of_lt (lt_of_le_of_lt (le_of_eq e)
          (lt_of_lt_of_le (mul-lt-mul_of_pos_right s (pow_pos j))
          (le_trans (le_of_eq (sym (pow-add 2 p j))) (pow_mono (more p j (le_of_lt g)))))) h)
    ]
  where
    more : (p j : ℕ) → j ≤ 2 → p + j ≤ p + 2
    more p j h = omega arith

pub quarter : {f : Format} {n : ℕ} → Digits f n → 2 ^ (prec f + 2) ≤ n → near f (n * 2 ^ low f) (4 * 2 ^ low f) * 4 ≡ n
quarter {f} {n} D h =
    let l = 2 ^ low f in
    let i : ℕ = D.j - 2 in
    let r : ℕ = D.M * 2 ^ i in
    let e : n ≡ r * 4 =
    D.is ∙ ap (λ z. D.M * 2 ^ z) (sym (back D.j 2 (low_digits D.M D.j (prec f) n D.is D.small h)))
    ∙ ap (λ z. D.M * z) (pow-add 2 i 2) ∙ sym (mul_assoc D.M (2 ^ i) 4) in
    ap (λ z. z * 4)
    (near_same f (n * l) (4 * l) (r * 4) 4 (mul-pos (zero-lt-suc 3) (pow_pos (low f))) (zero-lt-suc 3)
    (ap (λ z. z * l * 4) e ∙ ring 2 (λ r l. r :* con 4 :* l :* con 4 ≈ r :* con 4 :* (con 4 :* l)) tt r l)
    ∙ near_exact f D.M i 4 (zero-lt-suc 3) D.small)
    ∙ sym e

-- at the start: q is a constant of 64 or more times something that is no less than D, and w is 1
pub ahead_start : (f : Format) (C M D : ℕ) → Digits f M → D ≤ M → 64 * 2 ^ low f ≤ C
    → Ahead f D (near f (C * M) (2 ^ low f)) (2 ^ low f)
ahead_start f C M D G h c =
    let l = 2 ^ low f in
    let a : M * 64 ≤ near f (C * M) l =
    le_trans (le_of_eq (sym (shifted 6 G)))
    (near_mono f (M * 64) 1 (C * M) l (zero-lt-suc 0) (pow_pos (low f)) (below 3 (λ m l c. (m times con 64 :* l ≼ c) ∷ []
    ⊩ m :* con 64 :* l ≈ c :* m :* con 1) tt M l C c)) in
    below 4 (λ d m l q. (con 64 :* l times d ≼ m) ∷ (l times m :* con 64 ≼ q) ∷ [] ⊩ con 64 :* d :* l ≈ q :* l) tt D M l
    (near f (C * M) l) h a

-- a round divides q by four and multiplies w by four
pub ahead_step : (f : Format) (D Q W : ℕ) → Digits f Q → Digits f W → 2 ^ (prec f + 2) ≤ Q → Ahead f D Q W
    → Ahead f D (near f (Q * 2 ^ low f) (4 * 2 ^ low f)) (near f (W * (4 * 2 ^ low f)) (2 ^ low f))
ahead_step f D Q W G H big a =
    le_trans a
    (le_of_eq
    (ring 3 (λ q p w. (w times q ≼ p :* con 4) ∷ []
    ⊩ q :* w ≈ p :* (w :* con 4)) tt Q (near f (Q * 2 ^ low f) (4 * 2 ^ low f)) W (sym (quarter G big))
    ∙ ap (λ z. near f (Q * 2 ^ low f)
    (4 * 2 ^ low f) * z) (sym (four_times H))))

-- at the end: q is below the mean A
pub ahead_end : (f : Format) (D Q W A i : ℕ) → Digits f D → i + 6 ≡ low f → Ahead f D Q W → Q ≤ A → 0 < near f (A * W) (2 ^ low f)
    → near f (D * 2 ^ low f) (near f (A * W) (2 ^ low f)) ≤ 2 ^ i
ahead_end f D Q W A i G e a h pos =
    let l = 2 ^ low f in
    let E = near f (A * W) l in
    let s : l ≡ 2 ^ i * 64 = ap (λ z. 2 ^ z) (sym e) ∙ pow-add 2 i 6 in
    let b : D * 64 ≤ E =
    le_trans (le_of_eq (sym (shifted 6 G)))
    (near_mono f (D * 64) 1 (A * W) l (zero-lt-suc 0) (pow_pos (low f))
    (below 5 (λ d l q w a. (con 1 times con 64 :* d :* l ≼ q :* w) ∷ (w times q ≼ a) ∷ [] ⊩ d :* con 64 :* l ≈ a :* w :* con 1) tt
    D l Q W A a h)) in
    le_trans
    (near_mono f (D * l) E (1 * 2 ^ i * 1) 1 pos (zero-lt-suc 0)
    (below 4 (λ d l i e. (d times l ≼ i :* con 64) ∷ (i times d :* con 64 ≼ e) ∷ []
    ⊩ d :* l :* con 1 ≈ con 1 :* i :* con 1 :* e) tt D l (2 ^ i) E (le_of_eq s) b))
    (le_of_eq (near_exact f 1 i 1 (zero-lt-suc 0) (pow-lt (digits f)) ∙ (let r : 1 * 2 ^ i ≡ 2 ^ i = omega arith in r)))
