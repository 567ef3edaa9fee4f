-- A word by its halves, each as the last digits of an f64: the difference of the greater one and what both hold above the halves
-- is exact, and its sum with the other is the word, rounded once. Assumes nothing.
use Rattle.std.specs.Prelude.{◌≡◌, ℕ, zero, suc, ◌+◌, ◌-◌, ◌*◌, ◌/◌, ◌%◌, ◌^◌, ◌<◌, ◌≤◌, Bool, true, false, not, [], ◌==◌, from_bits, refl, Float}
use Rattle.std.proofs.Common.{sym, ap, ◌∙◌, subst, mul-pos, mul-lt-mul_of_pos_right, lt_of_lt_of_le, arith, pow_pos, pow-add, pow_mono, shl_lt}
use Rattle.std.specs.Bool.{beq}
use Rattle.std.proofs.Math.Nat.{add-sub_cancel_left}
use Rattle.std.specs.Float.{binary64}
use Rattle.std.specs.Float.Ieee.{round, sub}
use Rattle.std.specs.Float.Ieee.Exact.{HasValue, round_exact}
use Rattle.std.specs.Float.Ieee.Scale.{round_same}
use Rattle.algebra.specs.Ring.{◌:+◌, ◌:*◌, ◌≈◌, ◌⊩◌}
use Rattle.algebra.proofs.Ring.{ring}
use Rattle.rounding.specs.Cut.{value, infinity}
use Rattle.rounding.proofs.Value.{value_at, value_is}
use Rattle.rounding.specs.Sign.{bits_neg}
use Rattle.binary64.specs.Operators.{◌⊕◌, ◌⊖◌}
use Rattle.distance.proofs.OrderLaws.{opposite_value}
use Rattle.fused.specs.Signs.{sum_plus, sum_more}
use Rattle.fused.proofs.Laws.{add_values}

beq_same : (s : Bool) → beq s s ≡ true
beq_same true = refl
beq_same false = refl

beq_not : (s : Bool) → beq s (not s) ≡ false
beq_not true = refl
beq_not false = refl

-- the value of a pattern with a sign
signed : (p s : ℕ) → p < infinity → s ≤ 1 → HasValue (from_bits binary64 (p + s * 2 ^ 63)) (s == 1) (value p) (2 ^ 1074)
signed p zero h l =
    let e : p + 0 * 2 ^ 63 ≡ p = omega arith in
    subst (λ (b : ℕ). HasValue (from_bits binary64 b) false (value p) (2 ^ 1074)) (sym e) (value_is p h)
signed p (suc zero) h l =
    let e : p + 1 * 2 ^ 63 ≡ p + 2 ^ 63 = omega arith in
    subst (λ (x : Float). HasValue x true (value p) (2 ^ 1074))
    (sym (ap (λ (b : ℕ). from_bits binary64 b) e ∙ bits_neg p (omega arith)))
    (opposite_value (from_bits binary64 p) false (value p) (2 ^ 1074) (value_is p h))
signed p (suc (suc s)) h l = absurd (omega arith)

-- ---- a difference that is exact, and a sum
parted : (b g P D : ℕ) → (b + g) * P * D ≡ b * P * D + g * P * D
parted = ring 4 (λ b g P D. [] ⊩ (b :+ g) :* P :* D ≈ b :* P :* D :+ g :* P :* D) tt

off : (b g P D : ℕ) → (b + g) * P * D - b * P * D ≡ g * P * D
off b g P D = ap (λ (n : ℕ). n - b * P * D) (parted b g P D) ∙ add-sub_cancel_left (b * P * D) (g * P * D)

joined : (v D : ℕ) → v * D * D ≡ v * (D * D)
joined = ring 2 (λ v D. [] ⊩ v :* D :* D ≈ v :* (D :* D)) tt

both_joined : (u v D : ℕ) → (u * D + v * D) * D ≡ (u + v) * (D * D)
both_joined = ring 3 (λ u v D. [] ⊩ (u :* D :+ v :* D) :* D ≈ (u :+ v) :* (D :* D)) tt

less : (b g P D : ℕ) → 0 < g → 0 < P → 0 < D → b * P * D < (b + g) * P * D
less b g P D h p d =
    mul-lt-mul_of_pos_right (mul-lt-mul_of_pos_right (more b g h) p) d
  where
    more : (b g : ℕ) → 0 < g → b < b + g
    more b g h = omega arith

difference : (x y : Float) (s : Bool) (b g j : ℕ) → 0 < g → g < 2 ^ 53 → j ≤ 1106
    → HasValue x s ((b + g) * 2 ^ j) (2 ^ 1074) → HasValue y s (b * 2 ^ j) (2 ^ 1074)
    → HasValue (x ⊖ y) s (g * 2 ^ j) (2 ^ 1074)
unfolding sub
difference x y s b g j some small few hx hy =
    subst (λ (z : Float). HasValue z s (g * 2 ^ j) (2 ^ 1074)) (sym rounded)
    (round_exact binary64 s (g * 2 ^ j) (2 ^ 1074) g j (pow_pos 1074) small fine refl)
  where
    fine : g * 2 ^ j < 2 ^ 2098
    fine = lt_of_lt_of_le (shl_lt 53 j small) (pow_mono (room j few))
      where
        room : (j : ℕ) → j ≤ 1106 → 53 + j ≤ 2098
        room j h = omega arith

    rounded : x ⊖ y ≡ round binary64 s (g * 2 ^ j) (2 ^ 1074)
    rounded =
        let P = 2 ^ j in
        let D = 2 ^ 1074 in
        add_values x _ s (not s) ((b + g) * P) (b * P) D D (pow_pos 1074) (pow_pos 1074) hx (opposite_value y s (b * P) D hy)
        ∙ sum_more s (not s) ((b + g) * P * D) (b * P * D) (D * D) (beq_not s) (less b g P D some (pow_pos j) (pow_pos 1074))
        ∙ round_same binary64 s ((b + g) * P * D - b * P * D) (D * D) (g * P) D
        (mul-pos (pow_pos 1074) (pow_pos 1074)) (pow_pos 1074)
        (ap (λ (n : ℕ). n * D) (off b g P D) ∙ joined (g * P) D)

together : (x y : Float) (s : Bool) (u v : ℕ) → HasValue x s u (2 ^ 1074) → HasValue y s v (2 ^ 1074)
    → x ⊕ y ≡ round binary64 s (u + v) (2 ^ 1074)
together x y s u v hx hy =
    let D = 2 ^ 1074 in
    add_values x y s s u v D D (pow_pos 1074) (pow_pos 1074) hx hy
    ∙ sum_plus s s (u * D) (v * D) (D * D) (beq_same s)
    ∙ round_same binary64 s (u * D + v * D) (D * D) (u + v) D (mul-pos (pow_pos 1074) (pow_pos 1074)) (pow_pos 1074)
    (both_joined u v D)

-- ---- THE LAW. hi and lo are the halves of n; the greater f64 is 2 ^ 84 and hi * 2 ^ 32, the other 2 ^ 52 and lo, all over
-- 2 ^ k.
fraction : (g l Q K P D : ℕ) → P ≡ 2 ^ 32 * Q → Q * K ≡ D → (g * P + (2 ^ 52 + l) * Q) * K ≡ (g * 2 ^ 32 + (2 ^ 52 + l)) * D
fraction g l Q K P D e f = rw (e, sym f) (spread g (2 ^ 52 + l) Q K (2 ^ 32))
  where
    spread : (g c Q K H : ℕ) → (g * (H * Q) + c * Q) * K ≡ (g * H + c) * (Q * K)
    spread = ring 5 (λ g c Q K H. [] ⊩ (g :* (H :* Q) :+ c :* Q) :* K ≈ (g :* H :+ c) :* (Q :* K)) tt

module _ (n k s : ℕ) (low : 2 ^ 59 ≤ n) (high : n < 2 ^ 64) (few : k ≤ 1000) (sign : s ≤ 1) where
  abbrev hi : ℕ
  hi = n / 2 ^ 32

  abbrev lo : ℕ
  lo = n % 2 ^ 32

  -- what is left of the greater half, less the other f64's 2 ^ 52
  abbrev g : ℕ
  g = hi - 2 ^ 20

  abbrev P : ℕ
  P = 2 ^ (1106 - k)

  abbrev Q : ℕ
  Q = 2 ^ (1074 - k)

  abbrev upper : ℕ
  upper = 0x4530_0000_0000_0000 - k * 2 ^ 52 + hi

  abbrev both : ℕ
  both = 0x4530_0000_0010_0000 - k * 2 ^ 52

  abbrev lower : ℕ
  lower = 0x4330_0000_0000_0000 - k * 2 ^ 52 + lo

  -- a pattern with the digits c
  at : (p y c : ℕ) → p ≡ y * 2 ^ 52 + c → 2 ^ 52 ≤ c → c ≤ 2 ^ 53 → y ≤ 1106
      → HasValue (from_bits binary64 (p + s * 2 ^ 63)) (s == 1) (c * 2 ^ y) (2 ^ 1074)
  at p y c e l u h =
      subst (λ (v : ℕ). HasValue (from_bits binary64 (p + s * 2 ^ 63)) (s == 1) v (2 ^ 1074))
      (ap value e ∙ value_at y c l u) (signed p s (omega arith) sign)

  the_upper : HasValue (from_bits binary64 (upper + s * 2 ^ 63)) (s == 1) ((2 ^ 52 + 2 ^ 20 + g) * P) (2 ^ 1074)
  the_upper = at upper (1106 - k) (2 ^ 52 + 2 ^ 20 + g) (omega arith) (omega arith) (omega arith) (omega arith)

  the_both : HasValue (from_bits binary64 (both + s * 2 ^ 63)) (s == 1) ((2 ^ 52 + 2 ^ 20) * P) (2 ^ 1074)
  the_both = at both (1106 - k) (2 ^ 52 + 2 ^ 20) (omega arith) (omega arith) (omega arith) (omega arith)

  the_lower : HasValue (from_bits binary64 (lower + s * 2 ^ 63)) (s == 1) ((2 ^ 52 + lo) * Q) (2 ^ 1074)
  the_lower = at lower (1074 - k) (2 ^ 52 + lo) (omega arith) (omega arith) (omega arith) (omega arith)

  scale : P ≡ 2 ^ 32 * Q
  scale = let e : 1106 - k ≡ 32 + (1074 - k) = omega arith in ap (λ (i : ℕ). 2 ^ i) e ∙ pow-add 2 32 (1074 - k)

  whole : Q * 2 ^ k ≡ 2 ^ 1074
  whole = let e : 1074 - k + k ≡ 1074 = omega arith in sym (pow-add 2 (1074 - k) k) ∙ ap (λ (i : ℕ). 2 ^ i) e

  again : g * 2 ^ 32 + (2 ^ 52 + lo) ≡ n
  again = omega arith

  pub halves : from_bits binary64 (upper + s * 2 ^ 63) ⊖ from_bits binary64 (both + s * 2 ^ 63) ⊕ from_bits binary64 (lower + s * 2 ^ 63)
      ≡ round binary64 (s == 1) n (2 ^ k)
  halves =
      together _ _ (s == 1) (g * P) ((2 ^ 52 + lo) * Q)
      (difference _ _ (s == 1) (2 ^ 52 + 2 ^ 20) g (1106 - k) (omega arith) (omega arith) (omega arith) the_upper the_both)
      the_lower
      ∙ round_same binary64 (s == 1) (g * P + (2 ^ 52 + lo) * Q) (2 ^ 1074) n (2 ^ k) (pow_pos 1074) (pow_pos k)
      (fraction g lo Q (2 ^ k) P (2 ^ 1074) scale whole ∙ ap (λ (m : ℕ). m * 2 ^ 1074) again)
