-- Products of which the upper word counts: factors scaled so that it is the quotient a rule asks for. Assumes nothing.
use Rattle.std.proofs.Common.{◌≡◌, ℕ, ◌+◌, ◌-◌, ◌*◌, ◌/◌, ◌^◌, ◌≤◌, [], sym, ap, ◌∙◌, le_trans, mul-le-mul_right, mul-le-mul, arith, pow_pos, pow_mono, pow-add}
use native.Mathlib.Nat.{div-div-eq-div-mul, div-le_of_le-mul}
use lib.Ieee.Nearest.{div_same}
use Rattle.algebra.specs.Ring.{con, ◌:*◌, ◌≈◌}
use Rattle.algebra.proofs.Ring.{ring}
use Rattle.enclosure.specs.Rules.{square, front, seed_square}

-- ---- a product with one factor doubled
pub doubled : (a h : ℕ) → 2 * a * h / 2 ^ 64 ≡ a * h / 2 ^ 63
doubled a h = div_same (2 * a * h) (2 ^ 64) (a * h) (2 ^ 63) (pow_pos 64) (pow_pos 63) (twice a h)
  where
    twice : (a h : ℕ) → 2 * a * h * 2 ^ 63 ≡ a * h * 2 ^ 64
    twice = ring 2 (λ a h. con 2 :* a :* h :* con (2 ^ 63) ≈ a :* h :* con (2 ^ 64)) tt

-- ---- squares: the rest of the power of two is a shift
shifted : (n b k : ℕ) → n / 2 ^ b / 2 ^ k ≡ n / 2 ^ (b + k)
shifted n b k = div-div-eq-div-mul n (2 ^ b) (2 ^ k) ∙ ap (λ (d : ℕ). n / d) (sym (pow-add 2 b k))

pub square_is : (j tau : ℕ) → 2 * tau * tau / 2 ^ 64 / 2 ^ (2 * j) ≡ square j tau
square_is j tau = ap (λ (n : ℕ). n / 2 ^ (2 * j)) (doubled tau tau) ∙ shifted (tau * tau) 63 (2 * j)

pub square_small : (j tau : ℕ) → tau ≤ 2 ^ 62 → square j tau ≤ 2 ^ 61
square_small j tau h =
    let k : 2 ^ 63 ≤ 2 ^ (63 + 2 * j) = pow_mono {i = 63} {j = 63 + 2 * j} (omega arith) in
    div-le_of_le-mul (2 ^ (63 + 2 * j)) (le_trans (mul-le-mul h h) (mul-le-mul_right (2 ^ 61) k))

pub seed_square_is : (j sg : ℕ) → 4 * sg * (4 * sg) / 2 ^ 64 / 2 ^ j / 2 ^ j ≡ seed_square j sg
seed_square_is j sg =
    let e : 60 + j + j ≡ 60 + 2 * j = omega arith in
    ap (λ (n : ℕ). n / 2 ^ j / 2 ^ j)
    (div_same (4 * sg * (4 * sg)) (2 ^ 64) (sg * sg) (2 ^ 60) (pow_pos 64) (pow_pos 60) (fourfold sg))
    ∙ ap (λ (n : ℕ). n / 2 ^ j) (shifted (sg * sg) 60 j)
    ∙ shifted (sg * sg) (60 + j) j
    ∙ ap (λ (k : ℕ). sg * sg / 2 ^ k) e
  where
    fourfold : (g : ℕ) → 4 * g * (4 * g) * 2 ^ 60 ≡ g * g * 2 ^ 64
    fourfold = ring 1 (λ g. con 4 :* g :* (con 4 :* g) :* con (2 ^ 60) ≈ g :* g :* con (2 ^ 64)) tt

-- ---- the front of atan
pub front_is : (tau f : ℕ) → 2 * tau * (2 * (2 ^ 62 - f)) / 2 ^ 64 ≡ front tau f
front_is tau f =
    let r = 2 ^ 62 - f in
    div_same (2 * tau * (2 * r)) (2 ^ 64) (tau * r) (2 ^ 62) (pow_pos 64) (pow_pos 62) (fourfold tau r)
  where
    fourfold : (t r : ℕ) → 2 * t * (2 * r) * 2 ^ 62 ≡ t * r * 2 ^ 64
    fourfold = ring 2 (λ t r. con 2 :* t :* (con 2 :* r) :* con (2 ^ 62) ≈ t :* r :* con (2 ^ 64)) tt
