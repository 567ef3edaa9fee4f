-- `ticks` meets its contract: the pattern's digits over 2 ^ s are the value. Assumes nothing.
use Prim.Native.Nat.{ℕ, ◌+◌, ◌-◌, ◌*◌, ◌/◌, ◌%◌, ◌^◌, ◌≤◌, ◌<◌}
use mathlib.Core.Path.{◌≡◌, sym, ap, ◌∙◌}
use mathlib.Core.List.{[], ◌∷◌}
use native.Mathlib.Nat.{eq_of_mul-eq-mul_right}
use native.Mathlib.Omega.{arith}
use borrow.Author.Rules.{rules}
use lib.Pow.{pow_pos, pow-add}
use lib.Ieee.{Float, binary64, to_bits}
use lib.Ieee.Nearest.{closest, closest_same}
use lib.Ieee.Positive.{num, den, den_pos, value→cross}
use Rattle.algebra.specs.Ring.{◌:*◌, ◌≈◌, ◌⊩◌, ◌times◌≼◌}
use Rattle.algebra.proofs.Ring.{ring}
use Rattle.rounding.specs.Cut.{value, infinity}
use Rattle.rounding.proofs.Value.{value_high}
use Rattle.binary64.proofs.Meaning.{bits_back}
use Rattle.between.specs.Between.{Between}
use Rattle.between.proofs.Between.{whole_units_of, has_value}
use Rattle.swing.specs.Ratios.{power}
use Rattle.swing_write.specs.Replies.{ticks_of}
use Rattle.swing_write.proofs.seconds.ticks.Goals as goal

-- ---- the pattern
record Pattern (bits : ℕ) : Type 0 where
  low : 1012 * 2 ^ 52 ≤ bits
  high : bits ≤ 1042 * 2 ^ 52

pattern_of : (x : Float) (bits : ℕ) (X : Between (power 1012) (power 1042) x) → bits ≡ to_bits binary64 x → bits ≡ X.n
pattern_of x bits X e = e ∙ ap (λ (y : Float). to_bits binary64 y) X.is
    ∙ bits_back X.n (small X.n X.high) (number X.n X.high)
  where
    small : (n : ℕ) → n ≤ 1042 * 2 ^ 52 → n < 2 ^ 64
    small n h = omega arith

    number : (n : ℕ) → n ≤ 1042 * 2 ^ 52 → n % 2 ^ 63 ≤ infinity
    number n h = omega arith

pattern-in : (x : Float) (bits : ℕ) → Between (power 1012) (power 1042) x → bits ≡ to_bits binary64 x → Pattern bits
pattern-in x bits X e = bounded bits X.n (pattern_of x bits X e) X.low X.high
  where
    bounded : (b n : ℕ) → b ≡ n → 1012 * 2 ^ 52 ≤ n → n ≤ 1042 * 2 ^ 52 → Pattern b
    bounded b n e l h = record { low = omega arith; high = omega arith }

-- ---- its digits over 2 ^ s are the value
same_ratio : (N d M U a b D : ℕ) → 0 < a → N * D ≡ M * a * d → a * b ≡ D → N * U * b ≡ M * U * d
same_ratio N d M U a b D A e f =
    eq_of_mul-eq-mul_right a A (N * U * b) (M * U * d)
    (ring 7 (λ N d M U a b D. (N :* U times a :* b ≼ D) ∷ (U times N :* D ≼ M :* a :* d) ∷ []
    ⊩ N :* U :* b :* a ≈ M :* U :* d :* a) tt N d M U a b D f e)

powers : (f : ℕ) → 1012 ≤ f → f ≤ 1042 → 2 ^ (f - 1) * 2 ^ (1075 - f) ≡ 2 ^ 1074
powers f l h = sym (pow-add 2 (f - 1) (1075 - f)) ∙ ap (λ (z : ℕ). 2 ^ z) (joined f l h)
  where
    joined : (f : ℕ) → 1012 ≤ f → f ≤ 1042 → f - 1 + (1075 - f) ≡ 1074
    joined f l h = omega arith

field : (bits : ℕ) → Pattern bits → (1012 ≤ bits / 2 ^ 52) × (bits / 2 ^ 52 ≤ 1042)
field bits P = (omega arith, omega arith)

normal : (bits : ℕ) → Pattern bits → 2 ^ 52 ≤ bits
normal bits P = omega arith

ticked : (x : Float) (bits : ℕ) → Between (power 1012) (power 1042) x → bits ≡ to_bits binary64 x
    → closest ((2 ^ 52 + bits % 2 ^ 52) * 1000000000000) (2 ^ (1075 - bits / 2 ^ 52)) ≡ ticks_of x
unfolding ticks_of whole_units_of
ticked x bits X e =
    let P = pattern-in x bits X e in
    let M = 2 ^ 52 + bits % 2 ^ 52 in
    let f = bits / 2 ^ 52 in
    let u : value X.n ≡ M * 2 ^ (f - 1) = ap value (sym (pattern_of x bits X e)) ∙ value_high bits (normal bits P) in
    let v : num x * 2 ^ 1074 ≡ M * 2 ^ (f - 1) * den x = value→cross x (value X.n) (2 ^ 1074) (has_value X)
    ∙ ap (λ (z : ℕ). z * den x) u in
    closest_same (M * 1000000000000) (2 ^ (1075 - f)) (num x * 1000000000000) (den x) (pow_pos (1075 - f)) (den_pos x)
    (sym (same_ratio (num x) (den x) M 1000000000000 (2 ^ (f - 1)) (2 ^ (1075 - f)) (2 ^ 1074) (pow_pos (f - 1)) v
    (powers f (field bits P).0 (field bits P).1)))

pub overflow_sub-bits : goal.overflow_sub-bits
overflow_sub-bits c =
    let p = field _ (pattern-in _ _ c.requires c.split-bits.ensures) in omega arith

pub scaled-requires : goal.scaled-requires
scaled-requires c =
    let p = field _ (pattern-in _ _ c.requires c.split-bits.ensures) in record { m_bound = omega arith; le_s = (omega arith, omega arith) }

pub returns : goal.returns
returns c =
    c.scaled.ensures ∙ ticked _ _ c.requires c.split-bits.ensures
