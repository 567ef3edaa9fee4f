-- A product of two words over a power of two: the quotient, the remainder, and how they round. Assumes nothing.
use Prim.Native.Nat.{ℕ, ◌+◌, ◌-◌, ◌*◌, ◌/◌, ◌%◌, ◌^◌, ◌≤◌, ◌<◌, compare, Ordering}
use mathlib.Core.Path.{◌≡◌, sym, ap, ◌∙◌, subst}
use mathlib.Core.List.{[]}
use native.Mathlib.Nat.{mul-add-div_right, mul-add-mod_self_right, mod-eq_of_lt, div-add-mod', div-lt_iff_lt-mul, lt_of_lt_of_le}
use native.Mathlib.Nat.{mul-le-mul_left}
use native.Mathlib.Omega.{arith}
use lib.Pow.{pow_pos, pow-add, pow_mono}
use lib.Ieee.{nearest}
use lib.Ieee.Nearest.{closest}
use Rattle.algebra.specs.Ring.{◌:*◌, ◌≈◌}
use Rattle.algebra.proofs.Ring.{ring}
use Rattle.algebra.specs.Order.{scaled_compare}

module _ (X A B hi lo : ℕ) (pos : 0 < A) (is : hi * (A * B) + lo ≡ X) where
  regrouped : X ≡ hi * B * A + lo
  regrouped = sym is ∙ ap (λ (z : ℕ). z + lo) (ring 3 (λ h a b. h :* (a :* b) ≈ h :* b :* a) tt hi A B)

  quotient : X / A ≡ hi * B + lo / A
  quotient = ap (λ (z : ℕ). z / A) regrouped ∙ mul-add-div_right {m = A} pos (hi * B) lo

  remainder : X % A ≡ lo % A
  remainder = ap (λ (z : ℕ). z % A) regrouped ∙ mul-add-mod_self_right (hi * B) A lo

-- what the code has in place of the remainder
pub rest_is : (lo A : ℕ) → lo < 2 ^ 64 → (lo / A * A) % 2 ^ 64 ≡ lo / A * A
rest_is lo A h = mod-eq_of_lt (below (lo / A * A) (lo % A) lo (div-add-mod' lo A) h)
  where
    below : (q r l : ℕ) → q + r ≡ l → l < 2 ^ 64 → q < 2 ^ 64
    below q r l e h = omega arith

-- the numbers that a period has: m of 53 digits, times 10 ^ 12, over 2 ^ s
module _ (m s hi lo : ℕ) (M : m < 2 ^ 53) (low : 33 ≤ s) (high : s ≤ 63) (is : hi * 2 ^ 64 + lo ≡ m * 1000000000000)
    (L : lo < 2 ^ 64) where
  whole : hi * (2 ^ s * 2 ^ (64 - s)) + lo ≡ m * 1000000000000
  whole = ap (λ (z : ℕ). hi * z + lo) (sym (pow-add 2 s (64 - s)) ∙ ap (λ (z : ℕ). 2 ^ z) (back s high)) ∙ is
    where
      back : (s : ℕ) → s ≤ 63 → s + (64 - s) ≡ 64
      back s h = omega arith

  pub quotient_is : m * 1000000000000 / 2 ^ s ≡ hi * 2 ^ (64 - s) + lo / 2 ^ s
  quotient_is = quotient (m * 1000000000000) (2 ^ s) (2 ^ (64 - s)) hi lo (pow_pos s) whole

  pub quotient_small : hi * 2 ^ (64 - s) + lo / 2 ^ s < 2 ^ 60
  quotient_small =
      subst (λ (z : ℕ). z < 2 ^ 60) quotient_is
      ((div-lt_iff_lt-mul {k = 2 ^ s} {x = m * 1000000000000} {y = 2 ^ 60} (pow_pos s)).1
      (lt_of_lt_of_le (most m M) (mul-le-mul_left (2 ^ 60) (pow_mono low))))
    where
      most : (m : ℕ) → m < 2 ^ 53 → m * 1000000000000 < 2 ^ 60 * 2 ^ 33
      most m h = omega arith

  pub rounds : (q r half : ℕ) → q ≡ hi * 2 ^ (64 - s) + lo / 2 ^ s → r ≡ lo % 2 ^ s → half * 2 ≡ 2 ^ s
      → nearest q (compare r half) ≡ closest (m * 1000000000000) (2 ^ s)
  rounds q r half e f g =
      let t : r ≡ m * 1000000000000 % 2 ^ s = f ∙ sym (remainder (m * 1000000000000) (2 ^ s) (2 ^ (64 - s)) hi lo (pow_pos s)
      whole) in
      let o : compare r half ≡ compare (m * 1000000000000 % 2 ^ s * 2) (2 ^ s) =
      sym (scaled_compare r half 2 (omega arith)) ∙ ap (λ (z : ℕ). compare (r * 2) z) g
      ∙ ap (λ (z : ℕ). compare (z * 2) (2 ^ s)) t in
      ap (λ (z : ℕ). nearest z (compare r half)) (e ∙ sym quotient_is)
      ∙ ap (λ (z : Ordering). nearest (m * 1000000000000 / 2 ^ s) z) o

  -- the same, as the code has it: shifts keep the low 64 digits
  pub shifted : hi * 2 ^ (64 - s) % 2 ^ 64 ≡ hi * 2 ^ (64 - s)
  shifted = mod-eq_of_lt (part (hi * 2 ^ (64 - s)) (lo / 2 ^ s) quotient_small)
    where
      part : (a b : ℕ) → a + b < 2 ^ 60 → a < 2 ^ 64
      part a b h = omega arith
