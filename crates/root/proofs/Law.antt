-- If the pattern b is cut into n and y, and c is the rounded root of n * 2 ^ 52, then the root of b's f64 has the pattern y * 2
-- ^ 52 + c. Assumes nothing.
use Rattle.std.proofs.Common.{◌≡◌, ℕ, zero, suc, ◌+◌, ◌-◌, ◌*◌, ◌^◌, ◌<◌, ◌≤◌, true, false, [], ◌∷◌, sym, refl, ap, ◌∙◌, subst, inl, inr, true≢false, lt_irrefl, mul_assoc, mul-le-mul, mul-pos, zero-mul, arith, pow_pos, pow-add}
use lib.Ieee.{Float, nan, inf, fin, binary64, up, down, of_bits}
use lib.Ieee.Fits.{down_pos}
use lib.Ieee.Exact.{HasValue}
use Rattle.algebra.specs.Ring.{con, nxt, ◌:+◌, ◌:*◌, ◌≈◌, ◌⊩◌, ◌times◌≼◌}
use Rattle.algebra.proofs.Ring.{ring, below}
use Rattle.algebra.specs.Order.{lt_or_le, lt_compare, gt_compare}
use Rattle.rounding.specs.Cut.{infinity, value, rounded}
use Rattle.rounding.proofs.Value.{value_at, value_lt, value_is}
use Rattle.rounding.specs.Laws.{middle}
use Rattle.rounding.proofs.Laws.{rounded_between}
use Rattle.root.specs.Root.{root_of, root}
use Rattle.root.proofs.Laws.{root_number, by_squares}
use Rattle.root.specs.Parts.{four, Scaled, RootDigits}

-- ---- the digits of the root: 53 of them
c_low : (n c : ℕ) → 2 ^ 52 ≤ n → RootDigits n c → 2 ^ 52 ≤ c
c_low n c h r = elim (lt_or_le c (2 ^ 52)) [
  | inl l ↦
      let k : c ≤ 2 ^ 52 - 1 = omega arith in
      let s : c * c ≤ (2 ^ 52 - 1) * (2 ^ 52 - 1) = mul-le-mul k k in
      omega (arith, r.within)
  | inr l ↦ l
]

too_high : (n c : ℕ) → c * c < n * 2 ^ 52 + c → 2 ^ 53 ≤ c → n + 2 ≤ 2 ^ 54 → 2 ^ 53 ≤ c → 1 ≤ 0
too_high =
    below 2 (λ n c.
    (con 1 times nxt (c :* c) ≼ n :* con (2 ^ 52) :+ c) ∷ (c times con (2 ^ 53) ≼ c) ∷
    (con (2 ^ 52) times n :+ con 2 ≼ con (2 ^ 54))
    ∷ (con (2 ^ 53 - 1) times con (2 ^ 53) ≼ c) ∷ [] ⊩ con 1 ≈ con 0) tt

pub c_high : (n c : ℕ) → n + 2 ≤ 2 ^ 54 → RootDigits n c → c < 2 ^ 53
c_high n c h r = elim (lt_or_le c (2 ^ 53)) [ inl l ↦ l | inr l ↦ let z = too_high n c r.above l h l in absurd (omega arith) ]

-- ---- the middles beside the pattern y * 2 ^ 52 + c, squared. Y is 2 ^ y.
before_at : (n d Y : ℕ) → d * d + d < n * 2 ^ 52 → 1 ≤ Y * Y
    → (d * Y + (d + 1) * Y) * (d * Y + (d + 1) * Y) < n * 2 ^ 54 * (Y * Y)
before_at =
    below 3 (λ n d Y.
    (con 4 :* Y :* Y times nxt (d :* d :+ d) ≼ n :* con (2 ^ 52)) ∷ (con 1 times con 1 ≼ Y :* Y) ∷ []
    ⊩ nxt ((d :* Y :+ (d :+ con 1) :* Y) :* (d :* Y :+ (d :+ con 1) :* Y)) ≈ n :* con (2 ^ 54) :* (Y :* Y)) tt

-- (at c = 2 ^ 52, where the unit changes)
before_one : (n A Y : ℕ) → A < 2 ^ 53 * Y → 2 ^ 52 ≤ n → 1 ≤ Y → A * A < n * 2 ^ 54 * (Y * Y)
before_one =
    below 3 (λ n A Y.
    (A :+ con (2 ^ 53) :* Y times nxt A ≼ con (2 ^ 53) :* Y) ∷ (con (2 ^ 54) :* Y :* Y times con (2 ^ 52) ≼ n) ∷
    (con 1 times con 1 ≼ Y) ∷ []
    ⊩ nxt (A :* A) ≈ n :* con (2 ^ 54) :* (Y :* Y)) tt

after_at : (n c Y : ℕ) → n * 2 ^ 52 ≤ c * c + c → 1 ≤ Y * Y → n * 2 ^ 54 * (Y * Y) < (c * Y + (c + 1) * Y) * (c * Y + (c + 1) * Y)
after_at =
    below 3 (λ n c Y.
    (con 4 :* Y :* Y times n :* con (2 ^ 52) ≼ c :* c :+ c) ∷ (con 1 times con 1 ≼ Y :* Y) ∷ []
    ⊩ nxt (n :* con (2 ^ 54) :* (Y :* Y)) ≈ (c :* Y :+ (c :+ con 1) :* Y) :* (c :* Y :+ (c :+ con 1) :* Y)) tt

at_scale : (w n y : ℕ) → w * four 511 ≡ n * four y → w * 2 ^ 1076 ≡ n * 2 ^ 54 * (2 ^ y * 2 ^ y)
unfolding four
at_scale w n y e =
    sym (mul_assoc w (2 ^ 1022) (2 ^ 54)) ∙ ap (λ (z : ℕ). z * 2 ^ 54) e
    ∙ regroup n (2 ^ (y + y)) (2 ^ 54) (2 ^ y) (pow-add 2 y y)
  where
    regroup : (n x k Y : ℕ) → x ≡ Y * Y → n * x * k ≡ n * k * (Y * Y)
    regroup = ring 4 (λ n x k Y. (n :* k times x ≼ Y :* Y) ∷ [] ⊩ n :* x :* k ≈ n :* k :* (Y :* Y)) tt

less_square : (d x : ℕ) → (d + 1) * (d + 1) < x + (d + 1) → d * d + d < x
less_square d x h = omega (arith, square d)
  where
    square : (d : ℕ) → (d + 1) * (d + 1) ≡ d * d + d + (d + 1)
    square = ring 1 (λ d. (d :+ con 1) :* (d :+ con 1) ≈ d :* d :+ d :+ (d :+ con 1)) tt

pub pattern_fits : {b n y : ℕ} (c : ℕ) → b < infinity → Scaled b n y → RootDigits n c → y * 2 ^ 52 + c < infinity
pattern_fits {b} {n} {y} c h s r = omega (arith, c_high n c s.high r, s.small h)

-- ---- the pattern y * 2 ^ 52 + c is reached, and the next is not. w is the value of the pattern b, and p / q is w units.
module _ {b n y : ℕ} (c : ℕ) (h : b < infinity) (s : Scaled b n y) (r : RootDigits n c) where
  abbrev Y : ℕ
  Y = 2 ^ y

  Y-pos : 1 ≤ Y
  Y-pos = pow_pos y

  -- the middle of a pattern and the next, squared
  abbrev square_at : ℕ → ℕ
  square_at k = middle k (suc k) * middle k (suc k)

  value_Y : (k d : ℕ) → k ≡ y * 2 ^ 52 + d → 2 ^ 52 ≤ d → d ≤ 2 ^ 53 → value k ≡ d * Y
  value_Y k d f h g = ap value f ∙ value_at y d h g

  lower : (d : ℕ) → d + 1 ≡ c → square_at (y * 2 ^ 52 + d) < value b * 2 ^ 1076
  lower d f =
      let k = y * 2 ^ 52 + d in
      let l : 2 ^ 52 ≤ d + 1 = omega (arith, c_low n c s.low r) in
      let u : d + 1 ≤ 2 ^ 53 = omega (arith, c_high n c s.high r) in
      let v : value (suc k) ≡ (d + 1) * Y = value_Y (suc k) (d + 1) (omega arith) l u in
      rw (at_scale (value b) n y s.same) (elim (lt_or_le d (2 ^ 52)) [
        | inl h ↦
            let g : d + 1 ≡ 2 ^ 52 = omega arith in
            let t : value (suc k) ≡ 2 ^ 52 * Y = v ∙ ap (λ (z : ℕ). z * Y) g in
            before_one n (middle k (suc k)) Y (omega (arith, t, value_lt k (suc k) (omega arith))) s.low Y-pos
        | inr h ↦
            let a : value k ≡ d * Y = value_Y k d refl h (omega arith) in
            let i : (d + 1) * (d + 1) < n * 2 ^ 52 + (d + 1) = subst (λ (z : ℕ). z * z < n * 2 ^ 52 + z) (sym f) r.above in
            rw (a, v) (before_at n d Y (less_square d (n * 2 ^ 52) i) (mul-pos Y-pos Y-pos))
      ])

  upper : value b * 2 ^ 1076 < square_at (y * 2 ^ 52 + c)
  upper =
      let k = y * 2 ^ 52 + c in
      let l : 2 ^ 52 ≤ c = c_low n c s.low r in
      let u : c < 2 ^ 53 = c_high n c s.high r in
      let a : value k ≡ c * Y = value_Y k c refl l (omega arith) in
      let v : value (suc k) ≡ (c + 1) * Y = value_Y (suc k) (c + 1) (omega arith) (omega arith) (omega arith) in
      rw (at_scale (value b) n y s.same, a, v) (after_at n c Y r.within (mul-pos Y-pos Y-pos))

  rounded_root : (p q : ℕ) → 0 < q → p * 2 ^ 1074 ≡ value b * q → rounded (root_of p q) ≡ of_bits binary64 (y * 2 ^ 52 + c)
  rounded_root p q Q e =
      let d = c - 1 in
      let f : d + 1 ≡ c = omega (arith, c_low n c s.low r) in
      let k = y * 2 ^ 52 + d in
      let i : suc k ≡ y * 2 ^ 52 + c = omega arith in
      let u : value b * 2 ^ 1076 < square_at (suc k) = subst (λ (z : ℕ). value b * 2 ^ 1076 < square_at z) (sym i) upper in
      rounded_between (root_of p q) (root_number p q Q) k (omega (arith, pattern_fits c h s r))
      (by_squares (middle k (suc k)) (value b) p q Q e ∙ lt_compare (square_at k) (value b * 2 ^ 1076) (lower d f))
      (by_squares (middle (suc k) (suc (suc k))) (value b) p q Q e ∙ gt_compare (square_at (suc k)) (value b * 2 ^ 1076) u)
      ∙ ap (λ (z : ℕ). of_bits binary64 z) i

-- ---- at a float that is w smallest units
root_is : (x z : Float) (w : ℕ) → HasValue x false w (2 ^ 1074) → 0 < w
    → ((p q : ℕ) → 0 < q → p * 2 ^ 1074 ≡ w * q → rounded (root_of p q) ≡ z) → root x ≡ z
unfolding root
root_is nan z w h W f = absurd h
root_is (inf s) z w h W f = absurd h
root_is (fin true m e) z w h W f = absurd (true≢false h.0)
root_is (fin false zero e) z w h W f =
    let n : w * down e ≡ 0 = sym h.1 ∙ ap (λ (k : ℕ). k * 2 ^ 1074) (zero-mul (up e)) ∙ zero-mul (2 ^ 1074) in
    absurd (lt_irrefl 0 (subst (λ (k : ℕ). 0 < k) n (mul-pos W (down_pos e))))
root_is (fin false (suc m) e) z w h W f = f (suc m * up e) (down e) (down_pos e) h.1

-- THE LAW
pub root_pattern : {b n y : ℕ} (c : ℕ) → (0 < b) × (b < infinity) → Scaled b n y → RootDigits n c
    → root (of_bits binary64 b) ≡ of_bits binary64 (y * 2 ^ 52 + c)
root_pattern {b} {n} {y} c h s r =
    root_is (of_bits binary64 b) (of_bits binary64 (y * 2 ^ 52 + c)) (value b) (value_is b h.1)
    (omega (arith, value_lt 0 b h.0))
    (λ p q Q e. rounded_root c h.1 s r p q Q e)
