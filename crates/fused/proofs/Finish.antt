-- From the windows to the f64s: the sum of the two windows is `fused`. Assumes nothing.
use Rattle.std.proofs.Common.{◌≡◌, ℕ, ◌+◌, ◌-◌, ◌*◌, ◌%◌, ◌^◌, ◌<◌, ◌≤◌, Bool, leb, [], ◌∷◌, sym, refl, ◌∙◌, mul-le-mul, mul-pos, arith, pow_pos, pow-add}
use lib.Ieee.{Float, unlike, binary64, sum, of_bits}
use Rattle.algebra.specs.Ring.{con, ◌:*◌, ◌≈◌, ◌⊩◌, ◌times◌≼◌}
use Rattle.algebra.proofs.Ring.{ring}
use Rattle.rounding.specs.Cut.{value}
use Rattle.fused.specs.Fused.{times, fused}
use Rattle.nearest.specs.Stands.{wide}
use Rattle.fused.specs.Parts.{Scaled, Window}
use Rattle.fused.specs.Signs.{sum_same}
use Rattle.fused.proofs.Laws.{fused_sum}
use Rattle.fused.proofs.Pattern.{bits_value}

-- ---- the windows
pub window_product : (hi lo m n : ℕ) → 2 ^ 52 ≤ m → m < 2 ^ 53 → 2 ^ 52 ≤ n → n < 2 ^ 53 → lo < 2 ^ 64
    → wide hi lo ≡ m * 1024 * (n * 1024) → Window hi lo
window_product hi lo m n a b c d l e =
    let f : wide hi lo ≡ 2 ^ 20 * (m * n) = e ∙ around m n in
    let g : 2 ^ 52 * 2 ^ 52 ≤ m * n = mul-le-mul a c in
    let i : m ≤ 2 ^ 53 - 1 = omega arith in
    let j : n ≤ 2 ^ 53 - 1 = omega arith in
    let h : m * n ≤ (2 ^ 53 - 1) * (2 ^ 53 - 1) = mul-le-mul i j in
    record { low = omega arith; high = omega arith; last = omega arith }
  where
    around : (m n : ℕ) → m * 1024 * (n * 1024) ≡ 2 ^ 20 * (m * n)
    around = ring 2 (λ m n. m :* con 1024 :* (n :* con 1024) ≈ con (2 ^ 20) :* (m :* n)) tt

pub window_one : (m : ℕ) → 2 ^ 52 ≤ m → m < 2 ^ 53 → Window (m * 512) 0
window_one m a b = record { low = omega arith; high = omega arith; last = refl }

-- ---- `fused` of three patterns
last_one : (v w x y P E F S : ℕ) → v * 2 ^ 64 ≡ x * E → w * 2 ^ 64 ≡ y * F → x * 1024 * (y * 1024) ≡ P → E * F ≡ S
    → v * w * 2 ^ 1074 * 2 ^ 2296 ≡ P * S * (2 ^ 1074 * 2 ^ 1074 * 2 ^ 1074)
last_one =
    ring 8
    (λ v w x y P E F S.
    (w :* con (2 ^ 3306) times v :* con (2 ^ 64) ≼ x :* E)
    ∷ (x :* E :* con (2 ^ 3242) times w :* con (2 ^ 64) ≼ y :* F)
    ∷ (E :* F :* con (2 ^ 3222) times x :* con 1024 :* (y :* con 1024) ≼ P)
    ∷ (P :* con (2 ^ 3222) times E :* F ≼ S)
    ∷ []
    ⊩ v :* w :* con (2 ^ 1074) :* con (2 ^ 2296) ≈ P :* S :* (con (2 ^ 1074) :* con (2 ^ 1074) :* con (2 ^ 1074)))
    tt

last_two : (v x Q E F : ℕ) → v * 2 ^ 64 ≡ x * E → x * 2 ^ 73 ≡ Q → E * 2 ^ 1085 ≡ F
    → v * (2 ^ 1074 * 2 ^ 1074) * 2 ^ 2296 ≡ Q * F * (2 ^ 1074 * 2 ^ 1074 * 2 ^ 1074)
last_two =
    ring 5
    (λ v x Q E F.
    (con (2 ^ 4380) times v :* con (2 ^ 64) ≼ x :* E)
    ∷ (E :* con (2 ^ 4307) times x :* con (2 ^ 73) ≼ Q)
    ∷ (Q :* con (2 ^ 3222) times E :* con (2 ^ 1085) ≼ F)
    ∷ []
    ⊩ v :* (con (2 ^ 1074) :* con (2 ^ 1074)) :* con (2 ^ 2296) ≈ Q :* F :* (con (2 ^ 1074) :* con (2 ^ 1074) :* con (2 ^ 1074)))
    tt

module _ (a b c m n k x y z P : ℕ) (ka : Scaled (a % 2 ^ 63) m x) (kb : Scaled (b % 2 ^ 63) n y) (kc : Scaled (c % 2 ^ 63) k z)
    (e : P ≡ m * 1024 * (n * 1024)) where
  abbrev s : Bool
  s = unlike (leb (2 ^ 63) a) (leb (2 ^ 63) b)

  abbrev t : Bool
  t = leb (2 ^ 63) c

  abbrev Q : ℕ
  Q = wide (k * 512) 0

  abbrev answer : Float
  answer = fused (of_bits binary64 a) (of_bits binary64 b) (of_bits binary64 c)

  by_windows : sum binary64 s (P * 2 ^ (x + y)) t (Q * 2 ^ (z + 1085)) (2 ^ 2296) ≡ answer
  by_windows =
      let K = 2 ^ 1074 in
      let p = pow_pos 1074 in
      let va = value (a % 2 ^ 63) in
      let vb = value (b % 2 ^ 63) in
      let vc = value (c % 2 ^ 63) in
      let q : k * 2 ^ 73 ≡ Q = omega arith in
      sym
      (fused_sum (of_bits binary64 a) (of_bits binary64 b) (of_bits binary64 c) (leb (2 ^ 63) a)
      (leb (2 ^ 63) b) t va vb vc K K K p p p
      (bits_value a ka.finite) (bits_value b kb.finite) (bits_value c kc.finite)
      ∙ sum_same s t (va * vb * K) (vc * (K * K)) (K * K * K) (P * 2 ^ (x + y)) (Q * 2 ^ (z + 1085)) (2 ^ 2296)
      (mul-pos (mul-pos p p) p) (pow_pos 2296)
      (last_one va vb m n P (2 ^ x) (2 ^ y) (2 ^ (x + y)) ka.same kb.same (sym e) (sym (pow-add 2 x y)))
      (last_two vc k Q (2 ^ z) (2 ^ (z + 1085)) kc.same q (sym (pow-add 2 z 1085))))

  pub windows_fused : (r : Float) → r ≡ sum binary64 s (P * 2 ^ (x + y)) t (Q * 2 ^ (z + 1085)) (2 ^ 2296) → r ≡ answer
  windows_fused r f = f ∙ by_windows
