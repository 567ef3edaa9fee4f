-- The product and the quotient of two whole numbers that are f64s as they stand: the exact one, rounded once. Assumes nothing.
use Prim.Native.Nat.{ℕ, zero, suc, ◌-◌, ◌*◌, ◌^◌, ◌≤◌, ◌<◌}
use mathlib.Core.Path.{◌≡◌, sym, ap, ◌∙◌, subst}
use mathlib.Core.Bool.{Bool, false, cond}
use mathlib.Core.List.{[], ◌∷◌}
use native.Mathlib.Nat.{lt_irrefl, mul-pos, mul-one, zero-lt-suc, one-le-pow}
use native.Mathlib.Omega.{arith}
use lib.Dec.{eqb-suc-zero}
use lib.IntN.{pos}
use lib.Ieee.{Float, nan, inf, fin, binary64, up, down, round, mul, div, of_int, neg}
use lib.Ieee.Back.{round_whole}
use lib.Ieee.Exact.{HasValue}
use lib.Ieee.Fits.{up_pos, down_pos}
use lib.Ieee.Scale.{round_same}
use Rattle.algebra.specs.Ring.{con, ◌:*◌, ◌≈◌, ◌⊩◌, ◌times◌≼◌}
use Rattle.algebra.proofs.Ring.{ring}
use Rattle.binary64.specs.Operators.{◌⊗◌, ◌⊘◌}
use Rattle.nearest.specs.Signed.{round_sign}
use Rattle.decimal.specs.Decimal.{above, under, decimal_of}

-- a whole number as an f64
abbrev pub whole : ℕ → Float
whole n = of_int binary64 (pos n)

whole_value : (n : ℕ) → n ≤ 2 ^ 53 → HasValue (whole n) false n 1
unfolding of_int
whole_value n h = round_whole binary64 false n h

-- ---- with M / c and N / d for a and b
product_cross : (M N c d a b : ℕ) → M * 1 ≡ a * c → N * 1 ≡ b * d → M * N * 1 ≡ a * b * (c * d)
product_cross =
    ring 6
    (λ M N c d a b.
    (N times M :* con 1 ≼ a :* c) ∷ (a :* c times N :* con 1 ≼ b :* d) ∷ [] ⊩ M :* N :* con 1 ≈ a :* b :* (c :* d))
    tt

quotient_cross : (M N c d a b : ℕ) → M * 1 ≡ a * c → b * d ≡ N * 1 → M * d * b ≡ a * (N * c)
quotient_cross =
    ring 6
    (λ M N c d a b.
    (d :* b times M :* con 1 ≼ a :* c) ∷ (a :* c times b :* d ≼ N :* con 1) ∷ [] ⊩ M :* d :* b ≈ a :* (N :* c))
    tt

mul_whole : (x y : Float) (a b : ℕ) → HasValue x false a 1 → HasValue y false b 1 → x ⊗ y ≡ round binary64 false (a * b) 1
unfolding mul
mul_whole nan y a b v w = absurd v
mul_whole (inf s) y a b v w = absurd v
mul_whole (fin s m e) nan a b v w = absurd w
mul_whole (fin s m e) (inf t) a b v w = absurd w
mul_whole (fin s m e) (fin t n d) a b v w =
    rw (v.0, w.0)
    (round_same binary64 false (m * up e * (n * up d)) (down e * down d) (a * b) 1 (mul-pos (down_pos e) (down_pos d))
    (omega arith)
    (product_cross (m * up e) (n * up d) (down e) (down d) a b v.1 w.1))

div_whole : (x y : Float) (a b : ℕ) → 0 < b → HasValue x false a 1 → HasValue y false b 1 → x ⊘ y ≡ round binary64 false a b
unfolding div
div_whole nan y a b p v w = absurd v
div_whole (inf s) y a b p v w = absurd v
div_whole (fin s m e) nan a b p v w = absurd w
div_whole (fin s m e) (inf t) a b p v w = absurd w
div_whole (fin s m e) (fin t zero d) a b p v w =
    absurd (lt_irrefl 0 (subst (λ (z : ℕ). 0 < z) (sym w.1 ∙ nothing (up d)) (mul-pos p (down_pos d))))
  where
    nothing : (z : ℕ) → 0 * z * 1 ≡ 0
    nothing = ring 1 (λ z. con 0 :* z :* con 1 ≈ con 0) tt
div_whole (fin s m e) (fin t (suc n) d) a b p v w =
    rw (v.0, w.0, eqb-suc-zero n)
    (round_same binary64 false (m * up e * down d) (suc n * up d * down e) a b
    (mul-pos (mul-pos (zero-lt-suc n) (up_pos d)) (down_pos e)) p
    (quotient_cross (m * up e) (suc n * up d) (down e) (down d) a b v.1 (sym w.1)))

-- ---- which is the decimal number
module _ (s : Bool) (d t : ℕ) (p r : Float) (h : d ≤ 2 ^ 53) where
  pub one_up : 1200 ≤ t → HasValue p false (10 ^ (t - 1200)) 1 → r ≡ cond s (neg (whole d ⊗ p)) (whole d ⊗ p)
      → r ≡ decimal_of s d t
  unfolding decimal_of
  one_up l v e =
      let i : 1200 - t ≡ 0 = omega arith in
      let k : under t ≡ 1 = ap (λ (n : ℕ). 10 ^ n) i in
      rw k (round_sign s (above d t) 1 (whole d ⊗ p) r (mul_whole (whole d) p d (10 ^ (t - 1200)) (whole_value d h) v) e)

  pub one_down : t < 1200 → HasValue p false (10 ^ (1200 - t)) 1 → r ≡ cond s (neg (whole d ⊘ p)) (whole d ⊘ p)
      → r ≡ decimal_of s d t
  unfolding decimal_of
  one_down l v e =
      let i : t - 1200 ≡ 0 = omega arith in
      let k : above d t ≡ d = ap (λ (n : ℕ). d * 10 ^ n) i ∙ mul-one d in
      let q : 0 < under t = one-le-pow (1200 - t) 10 (omega arith) in
      rw k (round_sign s d (under t) (whole d ⊘ p) r (div_whole (whole d) p d (under t) q (whole_value d h) v) e)
