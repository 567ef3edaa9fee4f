-- The three start factors: 3ε, ε/4 and ε/5 to the power -1/8, where ε is 2 ^ -52 and ε/5 is rounded first (document 01, "What
-- the leaves mean"). They are constants, named here for the definitions of RF, RD and RJ; shown is that each is the f64 nearest
-- to the exact number, by eighth powers. Assumes nothing.
use Prim.Native.Nat.{ℕ, ◌*◌, ◌^◌, ◌≤◌, ◌<◌, compare}
use Rattle.std.specs.Prelude.{◌≡◌, refl, false, pos, negsuc, Float}
use Rattle.std.proofs.Common.{sym, ap, ◌∙◌, subst, arith}
use Rattle.std.proofs.Math.Nat.{pow-lt-pow_left}
use Rattle.std.specs.Float.{nan, inf, fin, binary64}
use Rattle.std.specs.Float.Ieee.{up, down, mul, div, of_bits, to_bits}
use Rattle.algebra.specs.Ring.{◌:*◌, ◌:^◌, ◌≈◌}
use Rattle.algebra.proofs.Ring.{ring}
use Rattle.rounding.specs.Cut.{Cut, infinity, value, rounded}
use Rattle.rounding.specs.Laws.{Number, Nearest}
use Rattle.rounding.proofs.Laws.{rounded_nearest}
use Rattle.rounding.proofs.Fraction.{fraction_number}
use Rattle.binary64.specs.Operators.{◌⊗◌, ◌⊘◌, bits}
use Rattle.binary64.proofs.Meaning.{bits_back}
use Rattle.derived.specs.Starts.{eighth, eighth_of, epsilon, rd_bits, rd_start_factor, rf_bits, rf_start_factor, rj_bits, rj_start_factor}

-- eighth powers keep the order, so this is one number
pub eighth_number : (p q : ℕ) → 0 < p → Number (eighth_of p q)
eighth_number p q P = record {
  below = λ a b c d B D h t.
      (fraction_number q p P).below (a ^ 8) (b ^ 8) (c ^ 8) (d ^ 8) (eighth_pos b B) (eighth_pos d D)
      (powers a b c d (pow-lt-pow_left h (λ z. omega arith))) t;
}
  where
    eighth_pos : (b : ℕ) → 0 < b → 0 < b ^ 8
    eighth_pos b h = pow-lt-pow_left h (λ z. omega arith)

    product : (a d : ℕ) → (a * d) ^ 8 ≡ a ^ 8 * d ^ 8
    product = ring 2 (λ a d. (a :* d) :^ 8 ≈ a :^ 8 :* d :^ 8) tt

    powers : (a b c d : ℕ) → (a * d) ^ 8 < (c * b) ^ 8 → a ^ 8 * d ^ 8 < c ^ 8 * b ^ 8
    powers a b c d h = rw (← product a d, ← product c b) h

pub of_three : eighth (fin false 3 (pos 0) ⊗ epsilon) ≡ rf_start_factor
unfolding mul rounded value of_bits
of_three = refl

pub of_quarter : eighth (epsilon ⊘ fin false 1 (pos 2)) ≡ rd_start_factor
unfolding div rounded value of_bits
of_quarter = refl

pub of_fifth : eighth (epsilon ⊘ fin false 5 (pos 0)) ≡ rj_start_factor
unfolding div rounded value of_bits
of_fifth = refl

-- ---- and each is nearest, of all f64s: an answer of `rounded` is
pub nearest_at : (v : Cut) → Number v → (n : ℕ) → n ≤ infinity → rounded v ≡ bits n → Nearest v n
nearest_at v num n h e =
    let found = rounded_nearest v num in
    let near = found.2 in
    let m = found.0 in
    let l : m ≤ infinity = near.held in
    let same : m ≡ n = sym (bits_back m (omega arith) (omega arith)) ∙ ap (to_bits binary64) (sym found.1 ∙ e)
    ∙ bits_back n (omega arith) (omega arith) in
    subst (λ (k : ℕ). Nearest v k) same near

pub three_nearest : Nearest (eighth_of 3 (2 ^ 52)) rf_bits
unfolding mul
three_nearest = nearest_at (eighth_of 3 (2 ^ 52)) (eighth_number 3 (2 ^ 52) (omega arith)) rf_bits (omega arith) of_three

pub quarter_nearest : Nearest (eighth_of 1 (2 ^ 54)) rd_bits
unfolding div
quarter_nearest = nearest_at (eighth_of 1 (2 ^ 54)) (eighth_number 1 (2 ^ 54) (omega arith)) rd_bits (omega arith) of_quarter

-- (ε/5 rounded)
pub a_fifth : epsilon ⊘ fin false 5 (pos 0) ≡ fin false 0xc_cccc_cccc_cccd (negsuc 105)
unfolding div
a_fifth = refl

pub fifth_nearest : Nearest (eighth_of 0xc_cccc_cccc_cccd (2 ^ 106)) rj_bits
unfolding div
fifth_nearest =
    nearest_at (eighth_of 0xc_cccc_cccc_cccd (2 ^ 106)) (eighth_number 0xc_cccc_cccc_cccd (2 ^ 106) (omega arith)) rj_bits
    (omega arith) of_fifth
