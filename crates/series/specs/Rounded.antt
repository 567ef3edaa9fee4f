-- The last rounding moves an answer by half a last place at most, so that one that is near every enclosure lies within one of it.
-- Assumes nothing.
use Rattle.std.specs.Prelude.{◌≡◌, ℕ, suc, ◌+◌, ◌-◌, ◌*◌, ◌/◌, ◌%◌, ◌^◌, ◌<◌, ◌≤◌, ◌==◌, from_bits}
use Prim.Native.Nat.{compare, Ordering}
use Rattle.std.proofs.Common.{sym, ap, ap₂, ◌∙◌, subst, inl, inr, le_of_eq, le_trans, mul-le-mul_right, mod-lt, div-add-mod', arith, pow_pos, pow-add, pow_mono}
use Rattle.std.proofs.Math.Nat.{mul-div-mul_right, pow-succ'}
use Rattle.std.specs.Float.{binary64}
use Rattle.std.specs.Float.Ieee.{size, nearest, round}
use Rattle.std.specs.Float.Ieee.Digits.{size-lt}
use Rattle.algebra.specs.Order.{lt_or_le, Compared, compared, scaled_compare}
use Rattle.rounding.specs.Cut.{infinity, value}
use Rattle.rounding.proofs.Value.{value_at}
use Rattle.enclosure.specs.Quotient.{Quotient, ◌≼◌, parts}
use Rattle.enclosure.specs.Enclosure.{Within}
use Rattle.enclosure.proofs.Answers.{within_same, within_rounded}
use Rattle.series.specs.Near.{last_place, Near}
use Rattle.series.specs.Scaled as whole

-- ---- what is picked of w G and (w + 1) G is at most G / 2 away
picked : (Y w r G : ℕ) (o : Ordering) → w * G + r ≡ Y → r < G → Compared o (r * 2) G
    → (2 * (nearest w o * G) ≤ 2 * Y + G) × (2 * Y ≤ 2 * (nearest w o * G) + G)
picked Y w r G Ordering.lt e h c = (omega arith, omega arith)
picked Y w r G Ordering.gt e h c = (omega arith, omega arith)
picked Y w r G Ordering.eq e h c = elim (lt_or_le (w % 2) 1) [
  | inl l ↦ let z : w + w % 2 ≡ w = omega arith in rw z (omega arith, omega arith)
  | inr l ↦ let z : w + w % 2 ≡ suc w = omega (arith, mod-lt w (pow_pos 1)) in rw z (omega arith, omega arith)
]

module _ (Y k : ℕ) (least : 2 ^ 59 ≤ Y) (word : Y < 2 ^ 64) (few : k ≤ 1000) where
  range : (0 < Y) × (Y < 2 ^ 64)
  range = (omega arith, word)

  abbrev z : ℕ
  z = size Y

  z_low : 60 ≤ z
  z_low = elim (lt_or_le 59 z) [ inl l ↦ l | inr l ↦ absurd (omega (arith, size-lt Y, pow_mono {i = z} {j = 59} l)) ]

  z_high : z ≤ 64
  z_high = whole.size_most Y range

  -- the answer's last place and its half, in parts of 2 ^ -k
  abbrev G : ℕ
  G = 2 ^ (z - 53)

  abbrev H : ℕ
  H = 2 ^ (z - 54)

  halves : G ≡ H * 2
  halves = let l : 60 ≤ z = z_low in let e : z - 53 ≡ suc (z - 54) = omega arith in ap (λ (n : ℕ). 2 ^ n) e
      ∙ pow-succ' 2 (z - 54) ∙ omega arith

  H-least : 64 ≤ H
  H-least = let l : 60 ≤ z = z_low in pow_mono {i = 6} {j = z - 54} (omega arith)

  -- ---- the digits that are kept are those of Y / G
  field_is : 2 ^ whole.field Y range ≡ G * 2 ^ 1074
  field_is = let l : 60 ≤ z = z_low in let e : z + 1021 ≡ z - 53 + 1074 = omega arith in ap (λ (n : ℕ). 2 ^ n) e
      ∙ pow-add 2 (z - 53) 1074

  kept_is : whole.kept Y range ≡ Y / G
  kept_is = ap (λ (n : ℕ). Y * 2 ^ 1074 / n) field_is ∙ mul-div-mul_right Y G (pow_pos 1074)

  rest_is : whole.rest Y range ≡ Y % G * 2 ^ 1074
  rest_is =
      let whole-number : Y / G * (G * 2 ^ 1074) + whole.rest Y range ≡ Y * 2 ^ 1074 =
      ap₂ (λ (q f : ℕ). q * f + whole.rest Y range) (sym kept_is) (sym field_is) ∙ div-add-mod' (Y * 2 ^ 1074)
      (2 ^ whole.field Y range) in
      cancel (Y / G) G (2 ^ 1074) (Y % G) (whole.rest Y range)
      (whole-number ∙ ap (λ (y : ℕ). y * 2 ^ 1074) (sym (div-add-mod' Y G)))
    where
      cancel : (q g b r t : ℕ) → q * (g * b) + t ≡ (q * g + r) * b → t ≡ r * b
      cancel q g b r t e = omega arith

  twice : (r b : ℕ) → r * b * 2 ≡ r * 2 * b
  twice r b = omega arith

  half_is : whole.half Y range ≡ compare (Y % G * 2) G
  half_is =
      ap₂ (λ (m n : ℕ). compare (m * 2) n) rest_is field_is
      ∙ ap (λ (m : ℕ). compare m (G * 2 ^ 1074)) (twice (Y % G) (2 ^ 1074))
      ∙ scaled_compare (Y % G * 2) G (2 ^ 1074) (pow_pos 1074)

  abbrev n : ℕ
  n = whole.digits Y range

  close : (2 * (n * G) ≤ 2 * Y + G) × (2 * Y ≤ 2 * (n * G) + G)
  close =
      subst (λ (d : ℕ). (2 * (d * G) ≤ 2 * Y + G) × (2 * Y ≤ 2 * (d * G) + G)) (sym (ap₂ nearest kept_is half_is))
      (picked Y (Y / G) (Y % G) G (compare (Y % G * 2) G) (div-add-mod' Y G) (mod-lt Y (pow_pos (z - 53)))
      (compared (Y % G * 2) G))

  -- ---- the answer: its pattern, its size, its last place
  abbrev d : ℕ
  d = whole.field Y range - k

  abbrev bits : ℕ
  bits = d * 2 ^ 52 + n

  is_bits : whole.pattern Y range - k * 2 ^ 52 ≡ bits
  is_bits = less (whole.field Y range) n (enough z_low few)
    where
      enough : 60 ≤ z → k ≤ 1000 → k ≤ whole.field Y range
      enough h l = omega arith

      less : (f n : ℕ) → k ≤ f → f * 2 ^ 52 + n - k * 2 ^ 52 ≡ (f - k) * 2 ^ 52 + n
      less f n h = omega arith

  powers : 2 ^ d * 2 ^ k ≡ G * 2 ^ 1074
  powers =
      let l : 60 ≤ z = z_low in
      let e : d + k ≡ whole.field Y range = omega arith in
      sym (pow-add 2 d k) ∙ ap (λ (i : ℕ). 2 ^ i) e ∙ field_is

  size_is : value bits ≡ n * 2 ^ d
  size_is = value_at d n (whole.digits_low Y range) (whole.digits_high Y range)

  same : value bits * 2 ^ k ≡ n * G * 2 ^ 1074
  same = ap (λ (v : ℕ). v * 2 ^ k) size_is ∙ regroup n (2 ^ d) (2 ^ k) ∙ ap (λ (p : ℕ). n * p) powers
      ∙ sym (regroup n G (2 ^ 1074))
    where
      regroup : (a b c : ℕ) → a * b * c ≡ a * (b * c)
      regroup a b c = omega arith

  place_least : 2 ^ d ≤ 2 ^ (bits / 2 ^ 52 - 1)
  place_least = pow_mono {i = d} {j = bits / 2 ^ 52 - 1} (places d n (whole.digits_low Y range))
    where
      places : (d n : ℕ) → 2 ^ 52 ≤ n → d ≤ (d * 2 ^ 52 + n) / 2 ^ 52 - 1
      places d n h = omega arith

  place_is : parts k G ≼ last_place bits
  place_is = record { cross = le_trans (le_of_eq (sym powers)) (mul-le-mul_right (2 ^ k) place_least) }

  finite : bits < infinity
  finite = below d n (small z_high) (whole.digits_high Y range)
    where
      small : z ≤ 64 → d ≤ 1085
      small h = omega arith

      below : (d n : ℕ) → d ≤ 1085 → n ≤ 2 ^ 53 → d * 2 ^ 52 + n < infinity
      below d n h l = omega arith

  -- THE LAW
  pub rounded_near : {lower upper : ℕ → Quotient} (s : ℕ) (down up : ℕ) → s ≤ 1 → down ≤ 64 → up ≤ 64
      → Within lower upper (parts k Y) (parts k down) (parts k up) → Near s (round binary64 (s == 1) Y (2 ^ k)) lower upper
  rounded_near s down up sign a b near =
      let g = halves in
      let h = H-least in
      let c = close in
      let moved = within_rounded k Y down up (n * G) H G near (omega arith) (omega arith) (omega arith) (omega arith) in
      record {
        bits = bits;
        finite = finite;
        is = sym (ap (λ (p : ℕ). from_bits binary64 (p + s * 2 ^ 63)) (sym is_bits) ∙ whole.scaled_is Y range k s few sign);
        within = within_same moved (record { cross = le_of_eq same }) (record { cross = le_of_eq (sym same) }) place_is place_is;
      }
